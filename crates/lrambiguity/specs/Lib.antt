-- what moves read
pub mod Replays
pub mod Inputs
pub mod Derivations
-- ways on from stacks
pub mod Finishing
-- items that stand in one another
pub mod Nesting
-- where trees part
pub mod Partings
-- parts of sentences
pub mod Parts
-- how the code stores them
pub mod StoredReplays
pub mod StoredAmbiguities
pub mod StoredFolds
pub mod StoredItems
