-- The definitions of caches, how they lie in lent words, and what a core sees of them.
pub mod Slots
pub mod Words
pub mod Own
