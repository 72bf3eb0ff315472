-- Lemmas on the directory's tables.
pub mod Loops
pub mod Tables
