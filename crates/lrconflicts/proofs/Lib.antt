-- lemmas of entries
pub mod AddedEntries
pub mod ListsOfGraphs
pub mod EntryTokens
pub mod ListedEntries
