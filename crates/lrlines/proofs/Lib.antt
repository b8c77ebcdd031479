-- the files of lemmas
pub mod Counts
pub mod PassedErrors
pub mod KnownBytes
pub mod AnsweredLines
pub mod AnsweringBytes
pub mod ReadingLines
