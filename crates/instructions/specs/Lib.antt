pub mod Accesses
pub mod RegisterWords
pub mod MemoryWords
pub mod WordOutcomes
pub mod AnswerCodes
pub mod Edges
pub mod Inside
