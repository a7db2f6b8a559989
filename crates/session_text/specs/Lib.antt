pub mod Inside
pub mod Laws
pub mod Printing
pub mod Run
pub mod Session
