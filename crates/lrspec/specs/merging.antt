-- merging item sets, and graphs of them
pub mod Cores
pub mod WeakCompatibility
pub mod Sharing
pub mod Chains
pub mod Graph
pub mod Merged
