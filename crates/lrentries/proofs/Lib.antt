-- sentences with two trees, cells, images, and what is decided
pub mod NumberedTexts
pub mod CellsInTurn
pub mod Images
pub mod FoundDecisions
