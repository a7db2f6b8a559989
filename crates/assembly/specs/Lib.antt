pub mod Answers
pub mod Assembling
pub mod Inside
pub mod Laws
pub mod Listing
pub mod SourceLines
