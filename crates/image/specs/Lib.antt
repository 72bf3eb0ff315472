-- The definitions of memories, choices and refusals as bytes.
pub mod Refusals
pub mod Memory
pub mod Choices
pub mod MemoryLaws
pub mod ChoiceLaws
pub mod Check
pub mod Store
