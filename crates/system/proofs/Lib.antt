-- The proofs: nothing is refused in a run, and each cycle is one more.
pub mod Recorded
pub mod ByChoices
pub mod Fits
pub mod Steps
pub mod Runs
pub mod Power
pub mod Timed
