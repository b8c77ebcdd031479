-- The lemmas of this crate's proofs.
pub mod EqualBits
pub mod Unions
pub mod UnsetBits
pub mod SetPlaces
pub mod WordBits
pub mod PackedBits
pub mod JoinedWords
pub mod EqualWords
pub mod PlacesLeft
pub mod PlacesBegun
pub mod SharedBits
pub mod WrittenBit
pub mod ClearedBits
pub mod FilledWords
