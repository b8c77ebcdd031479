-- item sets as plain data
pub mod ItemsOf
-- gotos
pub mod Gotos
-- merging
pub mod Merging
pub mod Fingerprints
