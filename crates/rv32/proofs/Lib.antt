-- Lemmas on one instruction.
pub mod Laws
pub mod Words
