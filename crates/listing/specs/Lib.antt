pub mod Codes
pub mod Inside
pub mod Lines
pub mod Reading
pub mod RoundTrip
pub mod Writing
