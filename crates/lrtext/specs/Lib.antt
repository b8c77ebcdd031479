-- what comes next in a text
pub mod Runs
pub mod NextLexemes
-- reading
pub mod Readings
pub mod StoredContents
pub mod StoredReading
-- what is meant
pub mod StoredParts
pub mod NumberedNames
pub mod StoredLevels
pub mod MeantParts
pub mod ReadErrors
