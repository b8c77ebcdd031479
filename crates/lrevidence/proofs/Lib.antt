-- entries that are listed, what is known of one after the other, values in boxes, what is kept, and sentences that are lost
pub mod ListedEntries
pub mod EvidenceInTurn
pub mod Boxes
pub mod KeptMoves
pub mod FoundLosses
