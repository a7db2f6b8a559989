-- What only private functions and the reader's method cite. A reader who trusts the prover need not read it.
pub mod Matching
pub mod Putting
pub mod Reading
