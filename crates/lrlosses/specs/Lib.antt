-- sentences that the machine of a table rejects, and where
pub mod Losses
-- how the code stores them
pub mod StoredLosses
-- the machine on its way through a text
pub mod Walks
-- what is found at the candidates of cells
pub mod FoundLosses
-- and how the code stores that
pub mod StoredFinds
-- tables whose machine accepts exactly the sentences
pub mod Exactness
