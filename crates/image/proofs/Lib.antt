-- Lemmas of the proofs.
pub mod Words
pub mod Bits
pub mod Scan
pub mod Cycles
pub mod Sound
pub mod Front
pub mod Writes
