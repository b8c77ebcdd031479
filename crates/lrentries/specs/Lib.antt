-- sentences with two trees, those that are rejected, and sets of cells
pub mod Ambiguities
pub mod Losses
pub mod Cells
