-- What contracts inside and proofs speak of. No notion of document 01: a reader who trusts the prover need not read it.
pub mod Slots
