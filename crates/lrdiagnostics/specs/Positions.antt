-- lines and columns of the places of a text, of which not all bytes need be UTF-8
use Rattle.std.specs.Prelude.{◌≡◌, ℕ, ◌<◌, length, slice_index, ◌+◌, ◌-◌, ◌*◌, ◌/◌, ◌^◌, Bool, false, ◌==◌, min, List, [], ◌∷◌, ◌++◌, take, encode_utf8, if◌then◌else◌}
use Rattle.std.specs.List.{count_by}
use Rattle.std.specs.Option.{unwrap_or}
use Rattle.std.specs.Char.{IsScalar}
use Rattle.std.specs.Str.{StartsWithNoChar}
use Rattle.unicode_width.specs.Width.{char_width}

-- a line feed
abbrev pub is_feed : ℕ → Bool
is_feed b = b == 10

-- the number of the line of a place, from 1
abbrev pub line_of : List ℕ → ℕ → ℕ
line_of text at = count_by is_feed (take at text) + 1

-- the places of the line feeds before a place, upwards
pub record AreFeeds (text : List ℕ) (at : ℕ) (places : List ℕ) : Type 0 where
  pub all : length places ≡ count_by is_feed (take at text)
  pub before : (k : ℕ) → k < length places → count_by is_feed (take (slice_index places k) text) ≡ k
  pub through : (k : ℕ) → k < length places
      → count_by is_feed (take (slice_index places k + 1) text) ≡ k + 1

-- what stands behind the last line feed
abbrev pub last_line : List ℕ → List ℕ
last_line [] = []
last_line (b ∷ bs) = if count_by is_feed (b ∷ bs) == 0 then b ∷ bs else last_line bs

-- what stands before a place in its line
abbrev pub front_of : List ℕ → ℕ → List ℕ
front_of text at = last_line (take at text)

-- a column, or the greatest number where it is past that
abbrev pub counted : ℕ → ℕ
counted column = min column (2 ^ 64 - 1)

-- the column behind a character: a tab ends where the next multiple of 8 does, and a control character takes no column
abbrev pub column_after : ℕ → ℕ → ℕ
column_after column c =
    counted (if c == 9 then (column - 1) / 8 * 8 + 9 else column + unwrap_or (char_width false c) 0)

-- text that begins at one column ends before the other; a byte at which no character begins takes one
pub data EndsBefore : List ℕ → ℕ → ℕ → Type 0 where
  nothing : {column : ℕ} → EndsBefore [] column column
  character : {bs : List ℕ} {column behind : ℕ} (c : ℕ) → IsScalar c
      → EndsBefore bs (column_after column c) behind
      → EndsBefore (encode_utf8 c ++ bs) column behind
  stray : {b : ℕ} {bs : List ℕ} {column behind : ℕ} → StartsWithNoChar (b ∷ bs)
      → EndsBefore bs (counted (column + 1)) behind → EndsBefore (b ∷ bs) column behind
