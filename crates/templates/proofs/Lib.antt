-- Laws of the definitions, for the proofs here and in the crates above.
pub mod Decimals
pub mod FirstRows
pub mod OneLine
pub mod OwnTemplate
pub mod PutLine
pub mod Reading
pub mod Rows
pub mod Table
pub mod Writing
