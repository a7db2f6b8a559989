-- Laws of the definitions, for the proofs here.
pub mod Answers
pub mod AssembledListings
pub mod Contents
pub mod Listings
pub mod PutLines
pub mod PutListings
pub mod Reading
pub mod SourceLines
pub mod TypedFiles
