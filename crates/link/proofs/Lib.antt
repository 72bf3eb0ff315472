-- Lemmas on tables in lent words, and on rows of messages.
pub mod Rows
pub mod Tables
