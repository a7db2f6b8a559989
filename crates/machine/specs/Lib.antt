pub mod State
pub mod Registers
pub mod Setup
pub mod Codes
pub mod Loans
