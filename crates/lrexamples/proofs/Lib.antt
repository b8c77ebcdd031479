-- how deep a walk over a tree comes
pub mod DeepestNodes
