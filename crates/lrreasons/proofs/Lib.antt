-- lemmas: of what is found of entries; then of their texts
pub mod PlainTokens
pub mod ProvedOnes
pub mod ReasonsInTurn
pub mod SameNumbers
pub mod MoveTests
pub mod Fillings
pub mod NamesRead
pub mod Pieces
pub mod Shown
pub mod WordLines
pub mod Rows
pub mod ConflictLines
pub mod ToldOnce
