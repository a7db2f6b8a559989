-- What contracts inside and proofs speak of. No notion of document 02: a reader who trusts the prover need not read it.
pub mod Numbers
