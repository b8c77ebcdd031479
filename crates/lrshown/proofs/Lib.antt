-- texts without their ends, trees in a row, the words of these, steps that are kept, and texts that are the same
pub mod TextEnds
pub mod Rows
pub mod TreeWords
pub mod KeptSteps
pub mod SameTexts
