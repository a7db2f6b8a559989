pub mod PlainMachine
pub mod Demand3
pub mod Playing
pub mod Inside
