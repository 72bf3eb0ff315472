-- Lemmas on caches in lent words.
pub mod Found
pub mod Own
pub mod Written
