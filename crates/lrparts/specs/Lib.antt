-- What the contracts of this crate cite.
pub mod Refusals
pub mod TextErrors
pub mod UsedRules
pub mod LookUps
