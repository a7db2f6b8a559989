-- Laws of the definitions, for the proofs here and in the crates above.
pub mod FirstWrongLines
pub mod GoodSessions
pub mod Lengths
pub mod LineFormats
pub mod OnlyGoodSessions
pub mod Parsing
pub mod Prefix
pub mod Putting
