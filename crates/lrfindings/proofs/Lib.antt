-- precedences that are listed; the walks over a cell, and over cells; what is found without precedences, and without a graph;
-- tables that list nothing, and why nothing is found
pub mod StoredPrecedences
pub mod ReachedMarks
pub mod PartedByReach
pub mod TakenShifts
pub mod ReducedPairs
pub mod NeverReduced
pub mod CellWalks
pub mod CellsInTurn
pub mod FoundInCells
pub mod FoundNothing
pub mod ListedNothing
pub mod NothingFound
