-- Laws of the definitions, for the proofs here and in the crates above.
pub mod AnswerCodes
pub mod Differences
pub mod Edges
pub mod Outcomes
pub mod Places
pub mod Statuses
pub mod StoreEffects
pub mod TypedStates
pub mod WellFormed
pub mod Within
