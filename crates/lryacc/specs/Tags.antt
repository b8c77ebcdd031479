-- tags
use Rattle.std.specs.Prelude.{◌≡◌, ◌≢◌, ℕ, ◌+◌, ◌-◌, ◌||◌, ◌==◌, Bool, false, List, slice_index}

-- a `>` that closes a tag: it belongs to no `->`
pub record ClosesTag (text : List ℕ) (at : ℕ) : Type 0 where
  pub is : slice_index text at ≡ 62
  pub no_arrow : slice_index text (at - 1) ≢ 45

-- `<` or `>`
abbrev pub is_angle : ℕ → Bool
is_angle byte = byte == 60 || byte == 62

-- what may stand in a tag, from one place up to another
pub data IsInTag (text : List ℕ) : ℕ → ℕ → Type 0 where
  -- nothing
  nothing : {from : ℕ} → IsInTag text from from
  -- one more byte
  byte : {from at : ℕ} → IsInTag text from at → is_angle (slice_index text at) ≡ false
      → IsInTag text from (at + 1)
  -- the `>` of `->`
  arrow : {from at : ℕ} → IsInTag text from at → slice_index text at ≡ 62
      → slice_index text (at - 1) ≡ 45 → IsInTag text from (at + 1)
  -- a tag
  tag : {from at last : ℕ} → IsInTag text from at → slice_index text at ≡ 60
      → IsInTag text (at + 1) last → ClosesTag text last → IsInTag text from (last + 1)

-- a tag: the first `>` closes it that closes no tag in it
pub record IsTag (text : List ℕ) (start end : ℕ) : Type 0 where
  pub last : ℕ
  pub opens : slice_index text start ≡ 60
  pub between : IsInTag text (start + 1) last
  pub closes : ClosesTag text last
  pub ends : end ≡ last + 1
