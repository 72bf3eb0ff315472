-- The chip: the kind of its cores, the moves of lines, the cycle, what holds of them, the rank of a turn; and how its state lies in lent words.
pub mod Kind
pub mod Rv
pub mod Lines
pub mod Soc
pub mod Coherent
pub mod Rank
pub mod Runs
pub mod Range
pub mod Parts
pub mod Layout
pub mod Puts
pub mod Stopped
pub mod Replied
