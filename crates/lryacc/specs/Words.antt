-- classes of bytes, and what stands in a text from one place up to another
use Rattle.std.specs.Prelude.{◌≡◌, ℕ, ◌+◌, ◌<◌, ◌≤◌, ◌&&◌, ◌||◌, ◌==◌, not, Bool, true, false, List, length, slice_index, slice_range}
use Rattle.std.specs.Char.{is_ascii_alphabetic, is_ascii_alphanumeric, is_ascii_digit}

-- ---- classes of bytes

-- what a name begins with for Bison: a letter, `.` or `_`
abbrev pub is_name_start : ℕ → Bool
is_name_start byte = is_ascii_alphabetic byte || (byte == 46 || byte == 95)

-- what it goes on with: a letter, a digit, `.`, `_` or `-`
abbrev pub is_in_name : ℕ → Bool
is_in_name byte = is_ascii_alphanumeric byte || (byte == 46 || (byte == 95 || byte == 45))

-- what a name has for grmtools: letters, digits and `_`
abbrev pub is_in_word : ℕ → Bool
is_in_word byte = is_ascii_alphanumeric byte || byte == 95

-- what it begins with: all of them but digits
abbrev pub is_word_start : ℕ → Bool
is_word_start byte = is_in_word byte && not (is_ascii_digit byte)

-- what the name of a directive has for grmtools: the same, and `-`
abbrev pub is_in_directive : ℕ → Bool
is_in_directive byte = is_ascii_alphanumeric byte || (byte == 95 || byte == 45)

-- what the rest of a line has for grmtools: all but line feeds and carriage returns
abbrev pub is_in_rest : ℕ → Bool
is_in_rest byte = not (byte == 10 || byte == 13)

-- `%`
abbrev pub is_percent : ℕ → Bool
is_percent byte = byte == 37

-- what may stand behind the `%` of a directive of Bison by itself: `<`, `>`, `0` or `2`
abbrev pub is_short : ℕ → Bool
is_short byte = byte == 60 || (byte == 62 || (byte == 48 || byte == 50))

-- ---- the bytes of a text from `start` up to `end`

-- they are these
abbrev pub Are : List ℕ → ℕ → ℕ → List ℕ → Type 0
Are text start end bytes = slice_range text start end ≡ bytes

-- they are all those of a class that stand there one behind another
pub record IsRun (class : ℕ → Bool) (text : List ℕ) (start end : ℕ) : Type 0 where
  pub ordered : start ≤ end
  pub inside : end ≤ length text
  pub each : (at : ℕ) → start ≤ at → at < end → class (slice_index text at) ≡ true
  pub ends : end < length text → class (slice_index text end) ≡ false

-- the first is of one class, and those behind it are all of another that stand there
pub record IsWord (first goes_on : ℕ → Bool) (text : List ℕ) (start end : ℕ) : Type 0 where
  pub begins : first (slice_index text start) ≡ true
  pub rest : IsRun goes_on text (start + 1) end

-- they begin with this byte
abbrev pub Begins : ℕ → List ℕ → ℕ → Type 0
Begins byte text start = slice_index text start ≡ byte
