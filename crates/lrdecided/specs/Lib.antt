-- texts that agree
pub mod Agreements
-- when no two texts part at a cell
pub mod Decided
-- how two ways to read stand to one another
pub mod Nodes
-- what shows that no two do
pub mod Rules
-- and what certifies that no two texts part at a cell
pub mod Certificates
-- how the code stores nodes
pub mod StoredNodes
-- with what symbols begin
pub mod Beginnings
-- states that are collected
pub mod StoredStates
-- nodes to which moves lead
pub mod Moved
-- nodes at which two ways may begin
pub mod Starts
-- entries of cells
pub mod Entries
-- the moves that contend for cells
pub mod Contenders
