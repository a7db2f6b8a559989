-- Laws of runs and of steps back, for the proofs here and in the crates above.
pub mod Runs
pub mod StepsBack
