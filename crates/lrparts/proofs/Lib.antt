-- The lemmas of this crate's proofs.
-- lists and tests
pub mod Images
pub mod TruthTests
-- the causes of refusal
pub mod UsedRules
pub mod NameLookUps
pub mod KindLookUps
-- errors of texts
pub mod TextRefusals
