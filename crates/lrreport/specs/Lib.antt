-- conclusions, conflicts that are left open, how conclusions are told, and why there is none
pub mod Conclusions
pub mod LeftOpen
pub mod JsonTexts
pub mod JsonHeads
pub mod ToldConclusions
pub mod ToldFaults
-- sentences that are told of entries
pub mod Sentences
-- conflicts, whatever their states, and those of one cause
pub mod Conflicts
pub mod Causes
-- what notes tell of
pub mod Wholes
