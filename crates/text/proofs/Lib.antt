-- Laws of the definitions, for the proofs here and in the crates above.
pub mod ExactLines
pub mod Framing
pub mod OneLine
pub mod Prefix
pub mod Reading
pub mod Round
pub mod Writing
