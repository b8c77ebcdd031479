-- lists, as a loop goes along them
pub mod ListSteps
pub mod BodySteps
-- runs of bytes, and what comes next in a text
pub mod FirstClose
pub mod RunFacts
pub mod FrontFacts
pub mod NextLexemes
pub mod ReadLexemes
-- reading
pub mod ReadingDeclarations
pub mod ReadingDocuments
pub mod ReadingOutcomes
pub mod ReadingTexts
pub mod TakenLexemes
-- what is meant
pub mod NumberedNames
pub mod NamesInMaps
pub mod AddedNames
pub mod StoredReadings
pub mod MeaningFacts
pub mod LevelFacts
pub mod MadeParts
pub mod NumberedContents
pub mod TextCauses
