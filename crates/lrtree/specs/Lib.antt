-- trees, and going through them
pub mod StoredTrees
pub mod Visits
pub mod StoredVisits
pub mod Weights
-- building trees
pub mod Walks
pub mod StoredWalks
pub mod Built
pub mod TreesOf
-- writing trees
pub mod Pieces
pub mod StoredPieces
-- parsing
pub mod ParsedTexts
