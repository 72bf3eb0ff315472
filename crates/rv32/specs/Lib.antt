-- The definitions of the instruction set, in the order of the RISC-V unprivileged specification.
pub mod Did
pub mod Arithmetic
pub mod Decode
pub mod Execute
pub mod Laws
