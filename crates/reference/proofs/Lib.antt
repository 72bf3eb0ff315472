-- Lemmas on the machines at a lent memory.
pub mod Agree
pub mod Rows
