-- Laws of the definitions, for the proofs here and in the crates above.
pub mod ByMethod
pub mod Lengths
pub mod OneLine
pub mod RoundTrip
pub mod Words
