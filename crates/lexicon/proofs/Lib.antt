-- The lemmas of the words of a source.
pub mod Rows
