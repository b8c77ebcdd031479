-- grammars, their trees, and canonical items; item sets, and what can be done on a token
pub mod Grammar
pub mod Trees
pub mod First
pub mod CanonicalItems
pub mod ItemSets
pub mod StartState
pub mod Candidates
