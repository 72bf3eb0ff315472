-- Lemmas of a layout.
pub mod Steps
pub mod Bytes
pub mod Places
pub mod Laid
pub mod Labels
pub mod Theorems
pub mod Operands
pub mod Fetched
