-- names and texts in quotes, as grmtools reads them
use Rattle.std.specs.Prelude.{◌≡◌, ◌≢◌, ℕ, ◌+◌, ◌<◌, ◌⊎◌, ◌||◌, ◌==◌, Bool, true, false, List, slice_index}
use Rattle.lryacc.specs.Quotes.{is_literal}

-- `'` or `"`
abbrev pub is_quote : ℕ → Bool
is_quote byte = byte == 39 || byte == 34

-- what stands between quotes, from one place up to another; whether a quote is there behind a backslash
pub data AreParts (quote : ℕ) (text : List ℕ) (start : ℕ) : Bool → ℕ → Type 0 where
  -- nothing
  nothing : AreParts quote text start false start
  -- a byte that stands there by itself
  by_itself : {has : Bool} {at : ℕ} → AreParts quote text start has at
      → is_literal quote (slice_index text at) ≡ true → AreParts quote text start has (at + 1)
  -- a backslash, and behind it neither a quote nor a line feed
  pair : {has : Bool} {at : ℕ} → AreParts quote text start has at → slice_index text at ≡ 92
      → is_quote (slice_index text (at + 1)) ≡ false → slice_index text (at + 1) ≢ 10
      → AreParts quote text start has (at + 2)
  -- a backslash, and behind it a quote
  quoted : {has : Bool} {at : ℕ} → AreParts quote text start has at → slice_index text at ≡ 92
      → is_quote (slice_index text (at + 1)) ≡ true → AreParts quote text start true (at + 2)

-- a quote or a backslash by itself in quotes, as `'''` and `'\'`; a further such quote behind `'\'` makes it none
pub record IsLoneMark (quote : ℕ) (text : List ℕ) (start : ℕ) : Type 0 where
  pub opens : slice_index text start ≡ quote
  pub mark : (slice_index text (start + 1) ≡ quote)
      ⊎ ((slice_index text (start + 1) ≡ 92) × (slice_index text (start + 3) ≢ quote))
  pub closes : slice_index text (start + 2) ≡ quote

-- parts in quotes: the first such quote that belongs to none of them closes them
pub record AreInQuotes (quote : ℕ) (has : Bool) (text : List ℕ) (start end : ℕ) : Type 0 where
  pub last : ℕ
  pub some : start + 1 < last
  pub no_mark : ¬ IsLoneMark quote text start
  pub opens : slice_index text start ≡ quote
  pub between : AreParts quote text (start + 1) has last
  pub closes : slice_index text last ≡ quote
  pub ends : end ≡ last + 1

-- a name in quotes: a mark, or parts without a quote
pub data IsQuotedName (quote : ℕ) (text : List ℕ) (start : ℕ) : ℕ → Type 0 where
  -- a mark by itself
  mark : IsLoneMark quote text start → IsQuotedName quote text start (start + 3)
  -- parts of which none has a quote
  parts : {end : ℕ} → AreInQuotes quote false text start end → IsQuotedName quote text start end

-- a text in quotes: parts with a quote
abbrev pub IsQuotedText : ℕ → List ℕ → ℕ → ℕ → Type 0
IsQuotedText quote text start end = AreInQuotes quote true text start end
