-- items as keys, and their lookaheads
pub mod ItemKeys
pub mod WalksOverItems
pub mod JoinedLookaheads
pub mod PutLookaheads
-- closing
pub mod SymbolsBehindDots
pub mod PassedOn
pub mod NullableRests
pub mod KeptRows
pub mod ProductionsOfRule
pub mod RowsAdded
pub mod SetPlaces
pub mod MarkedProductions
pub mod VisitedItems
pub mod LeadsOfRule
pub mod RowsWritten
pub mod RowsReached
pub mod PutLeads
pub mod VisitsLeft
pub mod ClosingUnderway
pub mod VisitedLeads
pub mod ReachedPlaces
-- the items of a closure in their order
pub mod AscendingItems
pub mod ItemsInTurn
pub mod ListedItems
pub mod ListedTurns
pub mod ProductionsWithRows
