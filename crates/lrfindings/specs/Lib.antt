-- the grammar of a file, which conflicts precedences leave open and what they resolve, in which states, and what is promised of
-- findings, or where there are none
pub mod FileGrammars
pub mod CellConflicts
pub mod Cells
pub mod ReachedStates
pub mod StoredCells
pub mod Findings
pub mod FindErrors
