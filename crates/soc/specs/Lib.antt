-- The chip without caches: the kind of its cores, its two line buffers, its state and its cycle, and programs run on it.
pub mod Kind
pub mod Rv
pub mod Buffers
pub mod Soc
pub mod Runs
pub mod Layout
pub mod Turn
pub mod Stopped
