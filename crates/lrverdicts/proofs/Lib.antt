-- entries of lists of conflicts, and what is told of those that are expected
mod ListedEntries
mod ExpectedTexts
