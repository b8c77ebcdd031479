-- searches over plain data
pub mod FinishedSearches
pub mod StepsServed
pub mod RestsInTurn
pub mod NeedFacts
pub mod ClosesInTurn
pub mod StepsOfPlaces
pub mod RowsInTurn
pub mod UsesInTurn
pub mod TrailsInTurn
pub mod FingerprintsInTurn
pub mod TurnsOfSearch
