-- What the contracts of this crate cite.
-- the parts, from the crate that reads texts
pub use Rattle.lrtext.specs.StoredParts
-- indices
pub mod HashLaws
pub mod SymbolLaws
pub mod Symbols
-- bit vectors
pub mod Bits
-- grammars
pub mod GrammarSizes
pub mod StoredGrammar
pub mod PartNumbers
-- refusals
pub mod Refusals
pub mod TextErrors
-- nullable rules and FIRST sets
pub mod Firsts
pub mod StoredFirsts
pub mod NullableBits
pub mod FirstRows
