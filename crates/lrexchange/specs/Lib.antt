-- positions at which ways to go on are compared
pub mod Positions
-- how they are won
pub mod Exchanges
-- what is asked at a position
pub mod Asked
-- positions that sink
pub mod Sinking
-- acts, as the code stores them
pub mod StoredActs
-- positions, as the code stores them
pub mod StoredPositions
