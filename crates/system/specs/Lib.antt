-- The chip on the board: what a cycle of both is, and what a run promises.
pub mod Log
pub mod Cycle
pub mod Run
pub mod Record
pub mod Steady
