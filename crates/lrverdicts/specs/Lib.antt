-- entries of lists of conflicts, what a verdict means, and what is told of it
pub mod Listed
pub mod Verdicts
pub mod VerdictTexts
