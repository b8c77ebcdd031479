-- tables that are kept in matrices
pub mod MatrixCells
pub mod StoredTables
pub mod TableRows
pub mod TokensTaken
-- tables of finished rows
pub mod FlattenedRows
pub mod TableOfRows
pub mod MadeTable
pub mod OutlinedTables
-- texts
pub mod HeadedTexts
