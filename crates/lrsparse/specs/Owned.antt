-- places of a list, as the bits of words
use Rattle.std.specs.Prelude.{◌≡◌, ℕ, ◌+◌, ◌/◌, ◌%◌, ◌<◌, List, length, slice_index}
use Rattle.std.specs.Int.{bit_at}

-- the place is owned: its bit is set in its word
abbrev pub IsOwned : List ℕ → ℕ → Type 0
IsOwned words place = bit_at (slice_index words (place / 64)) (place % 64) ≡ 1

-- all places below this one are owned
abbrev pub AreOwned : List ℕ → ℕ → Type 0
AreOwned words n = (place : ℕ) → place < n → IsOwned words place

-- at the displacement none of these columns meets an owned place
abbrev pub MeetsNone : List ℕ → List ℕ → ℕ → Type 0
MeetsNone words columns displacement =
    (k : ℕ) → k < length columns → ¬ (IsOwned words (displacement + slice_index columns k))
