-- the lemma files
pub mod EdgeFacts
pub mod DistinctSymbols
pub mod FoundEdges
pub mod GraphFacts
pub mod OrderedStates
pub mod EdgesByTarget
pub mod PrintedStates
