-- the machine after steps that go on, and a run that rejects
pub mod Rejections
-- the tokens of sentences
pub mod Sentences
-- a machine that makes all moves to a tree
pub mod WholeTrees
-- and how the code walks
pub mod WalkedSteps
