-- Laws of the definitions, for the proofs here and in the crates above.
pub mod Amounts
pub mod Branches
pub mod Decoding
pub mod Fits
pub mod RoundTrip
pub mod Table
