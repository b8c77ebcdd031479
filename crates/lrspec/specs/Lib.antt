-- the definitions, by subject

-- ---- grammars, their trees, canonical items and item sets
pub mod grammars
-- ---- merging item sets, and graphs
pub mod merging
-- ---- tables and the machine
pub mod tables
-- ---- grammar texts
pub mod texts
-- ---- examples
pub mod examples
