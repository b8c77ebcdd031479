-- types of rules, as grmtools reads them
use Rattle.std.specs.Prelude.{◌≡◌, ◌≢◌, ℕ, ◌+◌, ◌-◌, ◌⊎◌, ◌||◌, ◌==◌, Bool, false, List, codes, length, slice_index}
use Rattle.lryacc.specs.Comments.{IsPair}
use Rattle.lryacc.specs.Words.{Are}

-- whether a byte is more to a type than itself: a colon, a `;` or a bracket
abbrev pub is_mark : ℕ → Bool
is_mark byte = byte == 58 || (byte == 59 || (byte == 91 || byte == 93))

-- what may stand in a type, from one place up to another, at which so many brackets are open
pub data IsInType (text : List ℕ) (from : ℕ) : ℕ → ℕ → Type 0 where
  -- nothing
  nothing : IsInType text from from 0
  -- one more byte
  byte : {at depth : ℕ} → IsInType text from at depth → is_mark (slice_index text at) ≡ false
      → IsInType text from (at + 1) depth
  -- `::`
  colons : {at depth : ℕ} → IsInType text from at depth → IsPair text at 58 58
      → IsInType text from (at + 2) depth
  -- a `;` in brackets
  semicolon : {at depth : ℕ} → IsInType text from at depth → slice_index text at ≡ 59 → depth ≢ 0
      → IsInType text from (at + 1) depth
  -- `[`
  opens : {at depth : ℕ} → IsInType text from at depth → slice_index text at ≡ 91
      → IsInType text from (at + 1) (depth + 1)
  -- `]`, which closes one bracket, or none where none is open
  closes : {at depth : ℕ} → IsInType text from at depth → slice_index text at ≡ 93
      → IsInType text from (at + 1) (depth - 1)

-- a colon stands at a place, and none right behind it
pub record IsLoneColon (text : List ℕ) (at : ℕ) : Type 0 where
  pub is : slice_index text at ≡ 58
  pub lone : slice_index text (at + 1) ≢ 58

-- a type ends at a place at which so many brackets are open: before a colon by itself, before a `;` outside of brackets, or with
-- the text
abbrev pub EndsType : List ℕ → ℕ → ℕ → Type 0
EndsType text end depth =
    IsLoneColon text end ⊎ ((slice_index text end ≡ 59) × (depth ≡ 0) ⊎ (end ≡ length text))

-- what stands from a place up to another one is a type, and it ends there
pub record IsType (text : List ℕ) (start end : ℕ) : Type 0 where
  pub depth : ℕ
  pub between : IsInType text start end depth
  pub ends : EndsType text end depth

-- `->`, and a type
pub record IsRuleType (text : List ℕ) (start end : ℕ) : Type 0 where
  pub arrow : Are text start (start + 2) (codes "->")
  pub type_is : IsType text (start + 2) end
