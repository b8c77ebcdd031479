-- grammar texts: one list of lexemes, one document, one outcome
-- lexemes
pub mod ByteSplits
pub mod TextFronts
pub mod FrontComplete
pub mod FrontSound
pub mod LexemesOfText
-- documents
pub mod DocumentRests
pub mod ReadingStateFacts
pub mod SyntaxErrors
pub mod UniqueDocuments
-- meaning
pub mod RepeatedNames
pub mod TextOutcomes
-- lines
pub mod LineFacts
pub mod WordFacts
-- grammars of parts
pub mod GrammarOfParts
pub mod CausesInOrder
pub mod ResultsPassedOn
-- texts of trees
pub mod TreeTextsTell
