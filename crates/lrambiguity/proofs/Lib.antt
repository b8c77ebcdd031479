-- what moves put together
pub mod ReadingSteps
-- and how the code does
pub mod SymbolTests
pub mod StoredLeaves
pub mod ReplaySteps
pub mod MoveTests
pub mod ItemKeys
pub mod Contests
pub mod FoldSteps
pub mod NestingSteps
-- and what that tells
pub mod TwoTrees
pub mod ReadOnce
pub mod NextMoves
pub mod DeadEnds
-- ways on from stacks, and trees
pub mod Finishing
