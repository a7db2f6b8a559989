-- Laws of the definitions, for the proofs here.
pub mod Turns
