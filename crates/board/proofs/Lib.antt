-- Lemmas on rows, and on memory and the row in lent words.
pub mod Rows
pub mod Places
pub mod Writes
pub mod Follows
