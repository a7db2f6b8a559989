-- Laws of the definitions, for the proofs here and in the crates above.
pub mod Alike
pub mod AsPlain
pub mod Demand3
pub mod EveryList
pub mod Lists
pub mod Ring
pub mod Setups
pub mod Still
pub mod UndoLog
