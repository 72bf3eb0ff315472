-- The formal statements: machines that take turns, the board, what a chip promises and what it owes; and a small chip that meets them.
pub mod Machines
pub mod Board
pub mod Ports
pub mod Promise
pub mod Put
pub mod Registers
pub mod Faults
pub mod Loop
pub mod Owed
pub mod Kept
pub mod Lent
pub mod Rv32
pub mod Programs
pub mod Toy
pub mod Runs
