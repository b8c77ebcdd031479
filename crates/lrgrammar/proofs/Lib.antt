-- The lemmas of this crate's proofs.
-- lists
pub mod Ranges
pub mod Turns
-- grammars
pub mod FoundNames
pub mod ProductionLists
pub mod LastTokens
pub mod GrammarOfParts
-- nullable rules and FIRST sets
pub mod NullableRules
pub mod UnsetRows
pub mod JoinedRows
pub mod AddedSymbols
pub mod BodyWalks
pub mod RowPasses
pub mod DoneRows
