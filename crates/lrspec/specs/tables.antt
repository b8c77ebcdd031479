-- tables and their conflicts, the machine, and what it recognises
pub mod Table
pub mod Rows
pub mod Conflicts
pub mod Machine
pub mod TreeMachine
pub mod Recognition
pub mod LrTables
pub mod Built
