-- grammars in which no rule derives itself alone
pub mod Acyclicity
-- rules with those that they derive alone, as pairs
pub mod Pairs
-- how a stack goes on, and which losers of cells are kept
pub mod Kept
-- grammars for which what is kept makes tables exact
pub mod Exactness
-- cells that take all that contends for them
pub mod Choices
-- how well what cells refuse is kept
pub mod Keeping
