-- lists of nullable rules
pub mod NullableLists
-- cells that take all that contends for them, item after item
pub mod TakenCells
-- how many nodes the trees of a text have
pub mod NodeBounds
-- rules with those that they derive alone, one after another
pub mod AlonePairs
-- numbers that are taken away, and ranks
pub mod Peeled
-- the item that is open on a stack, and forests that go before ways on
pub mod OpenStacks
-- what stands and looks on such stacks, and what contends where they lead
pub mod OpenItemsStand
-- where edges lead from a state
pub mod FollowedEdges
-- where the symbols that both stacks have lead
pub mod ExchangeEdges
-- our stacks at positions, and what reductions and cuts make of them
pub mod ExchangeStacks
-- how a mark is tied to theirs
pub mod ExchangeTies
-- what is claimed of positions
pub mod ExchangeClaims
-- claims that hold of all listed positions at a turn
pub mod ExchangeTurns
-- what is listed where they go on, turn by turn
pub mod ExchangeAnswers
-- trees behind the dot of an open item
pub mod ExchangeTrees
-- claims where an item is open
pub mod ExchangeOpen
-- claims where they go on
pub mod ExchangeEven
-- marks of our stacks
pub mod ExchangeMarks
-- what they do next on the token
pub mod ExchangeMoves
-- claims around the token
pub mod ExchangeReads
-- a certificate shows that a move is kept
pub mod ExchangeKeeps
-- a machine that goes along with trees
pub mod Goings
-- what cells don't take, and crowded cells
pub mod Losers
-- cells whose refused moves are kept, one after another
pub mod KeptCells
-- where losers are kept the table is exact
pub mod ExactTables
