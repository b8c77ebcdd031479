-- moves, and the trees that they put together
pub mod Moves
-- how the code stores them
pub mod StoredMoves
-- the entries of a table's lists of conflicts
pub mod Entries
