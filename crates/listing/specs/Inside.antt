-- What only private functions cite. A reader who trusts the prover need not read it.
pub mod Method
