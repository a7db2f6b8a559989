-- Laws of the definitions, for the proofs here and in the crates above.
pub mod Lists
pub mod Locations
pub mod Sizes
pub mod Stores
