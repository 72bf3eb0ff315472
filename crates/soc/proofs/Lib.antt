-- The proofs: each small step keeps the chip in agreement with the manual's machines, and the turns end.
pub mod Runs
pub mod Lines
pub mod Keeps
pub mod Events
pub mod Rank
pub mod Turns
pub mod Rv
pub mod Owed
pub mod Kept
pub mod Regions
pub mod Attempt
pub mod Outs
