-- item sets that are merged stay rooted and shared, and their graph holds what stands
pub mod RootedCores
pub mod CrossFacts
pub mod ChainFacts
pub mod SharingKept
pub mod StatesHoldWhatStands
pub mod ReachedStates
pub mod SameSymbols
pub mod DistinctTargets
pub mod SameCores
