-- the files of definitions
pub mod Construction
pub mod Invariant
pub mod Counts
pub mod DraftOf
pub mod CandidatesOf
pub mod ChosenPlaces
pub mod Refusals
