-- devices of lines: what a call reads and writes of known bytes, and how failed calls are counted
use Rattle.std.specs.Prelude.{◌≡◌, ℕ, ◌+◌, ◌-◌, ◌<◌, ◌≤◌, ◌^◌, ◌==◌, ◌&&◌, ◌⊎◌, if◌then◌else◌, min, nat_lt, List, ◌++◌, length, take, Option}
use Rattle.std.specs.Io.KnownBytes.{Appends, Consumes}
use Rattle.lrspec.specs.texts.Lines.{answers_to}

-- ---- bytes, where the device tells them

-- some bytes were read of a reader with `old` and then `new` bytes left, and `P` holds of them
abbrev pub ConsumesSome : Option (List ℕ) → Option (List ℕ) → (List ℕ → Type 0) → Type 0
ConsumesSome old new P = (read : List ℕ) × Consumes old new read × P read

-- a beginning of the text was written to a writer with `old` and then `new` bytes
abbrev pub AppendsBeginning : Option (List ℕ) → Option (List ℕ) → List ℕ → Type 0
AppendsBeginning old new text =
    (wrote more : List ℕ) × Appends old new wrote × (text ≡ wrote ++ more)

-- the answers to the first of some lines were written, and those to at least one were not
abbrev pub AppendsFirstAnswers :
    Option (List ℕ) → Option (List ℕ) → (List ℕ → List ℕ) → List (List ℕ)
    → Type 0
AppendsFirstAnswers old new answer ls =
    (k : ℕ) × (k < length ls) × Appends old new (answers_to answer (take k ls))

-- ---- failed calls

-- one more failed call, until the count is full
abbrev pub one_more : ℕ → ℕ
one_more count = min (count + 1) (2 ^ 64 - 1)

-- the count behind a write that took `n` bytes of `len`: if it takes none of some, it has failed
abbrev pub after_write : ℕ → ℕ → ℕ → ℕ
after_write count n len = if n == 0 && nat_lt 0 len then one_more count else count

-- a call failed: the count rose, or was full before
abbrev pub HasFailed : ℕ → ℕ → Type 0
HasFailed old new = (old < new) ⊎ (2 ^ 64 - 1 ≤ old)

-- at least as many bytes were read as a call makes reads
abbrev pub GaveTooMuch : Option (List ℕ) → Option (List ℕ) → Type 0
GaveTooMuch old new = ConsumesSome old new (λ read. 2 ^ 64 - 1 ≤ length read)
