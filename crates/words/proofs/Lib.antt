-- Lemmas on words and on lent slices of them.
pub mod Bytes
pub mod Fields
pub mod Lines
pub mod Parts
pub mod Tables
