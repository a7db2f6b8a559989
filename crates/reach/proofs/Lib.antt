-- Laws of the definitions, for the proofs here.
pub mod Longest
mod Parts
mod Rows
