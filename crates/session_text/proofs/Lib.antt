-- Laws of the definitions, for the proofs here.
pub mod Answers
pub mod NothingCut
pub mod Prefix
pub mod Printed
