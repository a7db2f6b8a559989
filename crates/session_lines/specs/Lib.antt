pub mod Inside
pub mod LineFormats
pub mod Laws
pub mod Parsing
