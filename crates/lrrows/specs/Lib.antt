-- the files of definitions
pub mod StoredActions
pub mod StoredLists
pub mod ReadGraphs
pub mod StateRows
pub mod ReduceReduce
pub mod ReducingRows
pub mod RowsOf
