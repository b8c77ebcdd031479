-- what tests tell
pub mod Tests
-- lists that are gone through, element after element
pub mod AskedInTurn
-- what is below states, step by step
pub mod BelowStates
-- stacks that end with symbols, and those with a rule in the place of these
pub mod CutStacks
-- what is asked of some positions may be asked of more
pub mod GrowingAnswers
-- what is asked of others where a position is won
pub mod AskedPositions
-- where stacks lead, and what is done on top of them
pub mod ToppedStacks
-- beginnings that both stacks have, symbol after symbol
pub mod SunkPositions
-- positions that are the same, are listed, and are won
pub mod WonPositions
-- positions with the same parts
pub mod SamePositions
