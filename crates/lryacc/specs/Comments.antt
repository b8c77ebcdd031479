-- blanks, and comments
use Rattle.std.specs.Prelude.{◌≡◌, ℕ, ◌+◌, ◌<◌, ◌≤◌, ◌⊎◌, ◌&&◌, ◌||◌, ◌==◌, nat_le, Bool, true, List, length, slice_index}

-- spaces, tabs, feeds and carriage returns
abbrev pub is_white : ℕ → Bool
is_white byte = byte == 32 || nat_le 9 byte && nat_le byte 13

-- all of them but line feeds
abbrev pub is_line_blank : ℕ → Bool
is_line_blank byte =
    byte == 32 || (byte == 9 || (byte == 13 || (byte == 11 || byte == 12)))

-- two bytes at a place
pub record IsPair (text : List ℕ) (at first second : ℕ) : Type 0 where
  pub one : slice_index text at ≡ first
  pub other : slice_index text (at + 1) ≡ second

-- a comment from `/*` up to the first `*/` behind it, whose place is `last`
pub record IsBlock (text : List ℕ) (start last : ℕ) : Type 0 where
  pub opens : IsPair text start 47 42
  pub behind : start + 2 ≤ last
  pub closes : IsPair text last 42 47
  pub first : (at : ℕ) → start + 2 ≤ at → at < last → ¬ IsPair text at 42 47

-- a backslash stands at a place, and only blanks of its line between it and another place
pub record IsBackslash (text : List ℕ) (at end : ℕ) : Type 0 where
  pub is : slice_index text at ≡ 92
  pub behind : at < end
  pub blanks : (k : ℕ) → k < end → at < k → is_line_blank (slice_index text k) ≡ true

-- one stands so before a place, from `from` on: a line feed at that place ends no line
pub record IsSpliced (text : List ℕ) (from at : ℕ) : Type 0 where
  pub backslash : ℕ
  pub inside : from ≤ backslash
  pub is : IsBackslash text backslash at

-- a line ends at a place
pub record EndsLine (text : List ℕ) (from at : ℕ) : Type 0 where
  pub inside : at < length text
  pub feed : slice_index text at ≡ 10
  pub bare : ¬ IsSpliced text from at

-- a comment from `//` up to where its line ends, or else up to the end of the text
pub record IsLineComment (text : List ℕ) (start end : ℕ) : Type 0 where
  pub opens : IsPair text start 47 47
  pub behind : start + 2 ≤ end
  pub first : (at : ℕ) → at < end → start + 2 ≤ at → slice_index text at ≡ 10
      → IsSpliced text (start + 2) at
  pub ends : EndsLine text (start + 2) end ⊎ (end ≡ length text)
