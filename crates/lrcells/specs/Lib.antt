-- the files of definitions
pub mod Refusals
pub mod StoredTable
pub mod TakenTokens
