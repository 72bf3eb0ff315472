-- The definitions of encoding.
pub mod Encode
pub mod Fields
pub mod Laws
