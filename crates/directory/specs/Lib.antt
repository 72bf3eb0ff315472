-- The definitions of the directory, and of lent words as its tables.
pub mod Directory
pub mod Words
pub mod Laws
