-- tags that are read up to a place within them
use Rattle.std.specs.Prelude.{◌≡◌, ℕ, suc, ◌+◌, List, slice_index}
use Rattle.lryacc.specs.Tags.{IsInTag}

-- so many tags are open in a tag behind whose `<` one reads up to a place
pub data AreOpen (text : List ℕ) (from : ℕ) : ℕ → ℕ → Type 0 where
  -- none but the outermost
  none : {at : ℕ} → IsInTag text from at → AreOpen text from at 0
  -- one more, whose `<` stands at a place
  more : {opened at number : ℕ} → AreOpen text from opened number → slice_index text opened ≡ 60
      → IsInTag text (opened + 1) at → AreOpen text from at (suc number)
