-- The definitions of the words of a source.
pub mod Literal
pub mod Register
pub mod Rows
