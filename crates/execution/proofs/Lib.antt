-- Laws of the definitions, for the proofs here and in the crates above.
pub mod CheckOrder
pub mod Cursors
pub mod Kept
pub mod MemoryForms
pub mod Taking
