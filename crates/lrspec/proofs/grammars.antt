-- facts on bodies, trees, canonical items, closures and gotos
pub mod BodyFacts
pub mod TreeFacts
pub mod UniqueTrees
pub mod CanonicalItemFacts
pub mod Closures
pub mod LookaheadOrigins
pub mod CanonicalClosures
pub mod ListMembers
