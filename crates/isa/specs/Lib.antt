pub mod Decoding
pub mod Encoding
pub mod Inside
pub mod RoundTrip
pub mod Words
