pub mod ReachablePart
pub mod Longest
