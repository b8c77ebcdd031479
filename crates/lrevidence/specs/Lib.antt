-- sentences with two trees, which part somewhere, those that are rejected, entries that are decided, those at which no sentence is
-- lost, those that a table lists, and what searches share
pub mod Ambiguities
pub mod Losses
pub mod DecidedEntries
pub mod KeptEntries
pub mod Entries
pub mod Searches
