-- what a text in the making holds, and what is added to it
use Rattle.std.specs.Prelude.{◌≡◌, ℕ, Bool, List, ◌++◌, IsTrue}

-- the bytes, and whether these are all that were added
pub record Held : Type 0 where
  pub bytes : List ℕ
  pub is_whole : Bool

-- a piece stands behind all that was there before; nothing is said of a text that is not whole, but that it was none before
pub record Adds (old new : Held) (piece : List ℕ) : Type 0 where
  pub whole : IsTrue new.is_whole → IsTrue old.is_whole
  pub bytes : IsTrue new.is_whole → new.bytes ≡ old.bytes ++ piece
