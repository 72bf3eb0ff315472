-- The proofs: laws of the machines, boards and loops, and from what a chip owes to what it promises.
pub mod Basics
pub mod Memory
pub mod Machines
pub mod Loop
pub mod Count
pub mod Runs
pub mod Steady
pub mod Promises
pub mod ToyKeeps
pub mod ToyEvents
pub mod ToyTurns
pub mod ToyOwed
pub mod Programs
pub mod CoreWords
