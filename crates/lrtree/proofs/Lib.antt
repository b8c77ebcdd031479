-- going through trees, and taking them apart
pub mod FoldedTrees
pub mod VisitFacts
pub mod VisitTexts
pub mod StoredVisitSteps
pub mod WeightFacts
pub mod TakenApart
-- building trees
pub mod LastFirst
pub mod WalkSteps
pub mod StoredSteps
pub mod BuiltTrees
pub mod BuiltRows
-- writing trees
pub mod PieceTexts
pub mod WrittenNodes
pub mod StoredPieces
pub mod PieceSteps
-- lines
pub mod ParsedLines
