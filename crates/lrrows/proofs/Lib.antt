-- numbers of actions and gotos
pub mod KeptNumbers
-- the reductions of a closed state
pub mod ReductionsOf
pub mod CompleteTurns
pub mod LeastReductions
pub mod LeastAcceptReduce
-- cells, gotos and conflicts of one state
pub mod RowTurns
pub mod LeastListed
pub mod FilledPlaces
pub mod EdgeTargets
pub mod GotoEntries
pub mod TokenEdges
pub mod LookingTokens
pub mod ConflictSteps
pub mod ReduceReduceOfState
pub mod MarkedTokens
pub mod UsedTokens
-- rows, state after state
pub mod ReadableGraphs
pub mod FirstLooking
pub mod IndexedRows
pub mod ReducedRows
pub mod RowsByOne
pub mod EntryActions
pub mod NextRows
pub mod NumbersInTurn
pub mod StatesInTurn
