-- The definitions of words and of lent slices of them.
pub mod Word
pub mod Parts
pub mod Laws
