pub mod Calls
pub mod Simulation
pub mod Steps
pub mod Inside
