-- the files of definitions
pub mod Searches
pub mod StoredPlaces
pub mod StoredUses
pub mod Rests
pub mod StoredWays
pub mod PlaceOrder
pub mod Trails
