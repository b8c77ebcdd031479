-- steps of trees, the trees that they put together, as they are, as they are stored, and as they are shown, these in brackets,
-- what is shown of texts, sentences with two trees, those that are rejected, tables that lose none, and the words of verdicts
pub mod Steps
pub mod DrawnTrees
pub mod StoredTrees
pub mod Chains
pub mod ShownTrees
pub mod BracketTexts
pub mod BracketSteps
pub mod ShownTexts
pub mod Ambiguities
pub mod Losses
pub mod DecidedEntries
pub mod Exactness
pub mod VerdictWords
