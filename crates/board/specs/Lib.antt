-- The board in lent words.
pub mod Rows
pub mod Layout
pub mod Faults
pub mod Cycle
