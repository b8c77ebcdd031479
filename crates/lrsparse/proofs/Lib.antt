-- The lemmas of this crate's proofs.
pub mod OwnedBits
pub mod MetColumns
pub mod EntriesOfRow
pub mod RowSoFar
pub mod ColumnsOfRow
pub mod PlacedRow
pub mod ListedShort
pub mod RowsInList
pub mod StartsKept
