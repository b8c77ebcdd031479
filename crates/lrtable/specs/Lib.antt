pub mod ItemSets
pub mod Refusals
pub mod RunAnswers
pub mod Labels
pub mod WorkingMachine
pub mod Reached
pub mod Answered
