-- The definitions of a layout.
pub mod Layout
pub mod Pieces
pub mod Laws
