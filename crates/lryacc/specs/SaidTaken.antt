-- start symbols and expected conflicts, while declarations are taken in
use Rattle.std.specs.Prelude.{◌≡◌, ℕ, ◌<◌, ◌≤◌, ◌⊎◌, Bool, true, false, List, [], ◌∷◌, ◌++◌, Some, None, Contains, vec_len}
use Rattle.std.specs.BTreeSet.{contains}
use Rattle.std.specs.List.{last_or}
use Rattle.std.specs.Ordering.{nat_cmp}
use Rattle.lryacc.specs.declared.contents.Statement.{Statement}
use Rattle.lryacc.specs.declared.dialects.Dialect.{Dialect}
use Rattle.lryacc.specs.declared.dialects.Dialect.TheVariants.{Bison, Grmtools}
use Rattle.lryacc.specs.declared.lexemes.Lexeme.{Lexeme}
use Rattle.lryacc.specs.declared.meaning.Meaning.{Meaning}
use Rattle.lryacc.specs.ExpectedConflicts.{AreExpected, is_generalized, last_number, reduce_lexemes, shift_lexemes}
use Rattle.lryacc.specs.NamedSymbols.{AreApart, number_of}
use Rattle.lryacc.specs.StartSymbols.{AreStarts}

-- what is known of expected conflicts behind some declarations
pub record HasExpected (statements : List Statement) (meaning : Meaning) : Type 0 where
  pub shift_reduce : meaning.expected.shift_reduce
      ≡ last_number meaning.symbols.text.now (shift_lexemes statements)
  pub reduce_reduce : meaning.expected.reduce_reduce
      ≡ last_number meaning.symbols.text.now (reduce_lexemes statements)
  pub last : meaning.expected_reductions ≡ last_or None (reduce_lexemes statements)
  pub generalized : meaning.is_glr ≡ is_generalized statements

-- a symbol is known for a start, by its number
abbrev pub IsStarted : Meaning → ℕ → Type 0
IsStarted meaning number = contains nat_cmp meaning.started number ≡ true

-- one of the starts has that number
pub record HasStart (meaning : Meaning) (number : ℕ) : Type 0 where
  pub start : Lexeme
  pub is : Contains meaning.starts.items start
  pub named : number_of meaning.symbols start ≡ Some number

-- what is known of start symbols behind some declarations
pub record HasStarts (statements : List Statement) (meaning : Meaning) : Type 0 where
  pub starts :
      AreStarts meaning.symbols.text.now meaning.symbols.dialect statements meaning.starts.items
  pub known : (number : ℕ) → IsStarted meaning number → HasStart meaning number
  pub each : (number : ℕ) → HasStart meaning number → IsStarted meaning number

-- both
pub record HasSaid (statements : List Statement) (meaning : Meaning) : Type 0 where
  pub expected : HasExpected statements meaning
  pub starts : HasStarts statements meaning

-- more declarations are taken in, and no fault was told
pub record TakesSaid (statements : List Statement) (old new : Meaning) : Type 0 where
  pub faults : vec_len old.faults ≤ vec_len new.faults
  pub said : vec_len new.faults ≡ 0 → AreApart old.symbols
      → (so_far : List Statement) → HasSaid so_far old → HasSaid (so_far ++ statements) new

-- a symbol becomes a start
pub record AddsStart (lexeme : Lexeme) (old new : Meaning) (number : ℕ) : Type 0 where
  pub others : (other : ℕ) → IsStarted new other → (other ≡ number) ⊎ IsStarted old other
  pub kept : (other : ℕ) → IsStarted old other → IsStarted new other
  pub here : IsStarted new number
  pub first : contains nat_cmp old.started number ≡ false
  pub starts : new.starts.items ≡ old.starts.items ++ lexeme ∷ []

-- it is one already
pub record IsStartAgain (old new : Meaning) (number : ℕ) : Type 0 where
  pub is : IsStarted old number
  pub starts : new.starts ≡ old.starts
  pub started : new.started.keys ≡ old.started.keys

-- a symbol is taken for a start, unless it is one; one that is not known is told
pub data TakesStart (lexeme : Lexeme) (old new : Meaning) : Type 0 where
  first : (number : ℕ) → number_of old.symbols lexeme ≡ Some number
      → AddsStart lexeme old new number → TakesStart lexeme old new
  again : (number : ℕ) → number_of old.symbols lexeme ≡ Some number
      → IsStartAgain old new number → TakesStart lexeme old new
  unknown : 0 < vec_len new.faults → TakesStart lexeme old new

-- whether `%expect-rr` is heeded
abbrev pub heeds_reductions : Dialect → Bool → Bool
heeds_reductions Bison glr = glr
heeds_reductions Grmtools glr = true

-- what `%expect-rr` says where it is not heeded is left out
pub record LeavesOutReductions (old new : Meaning) : Type 0 where
  pub shift_reduce : new.expected.shift_reduce ≡ old.expected.shift_reduce
  pub left_out : heeds_reductions old.symbols.dialect old.is_glr ≡ false
      → (new.expected.reduce_reduce ≡ None) ⊎ (old.expected_reductions ≡ None)
  pub heeded : heeds_reductions old.symbols.dialect old.is_glr ≡ true
      → new.expected.reduce_reduce ≡ old.expected.reduce_reduce
  pub unsaid : old.expected_reductions ≡ None
      → new.expected.reduce_reduce ≡ old.expected.reduce_reduce
  pub generalized : new.is_glr ≡ old.is_glr
  pub starts : new.starts ≡ old.starts

-- behind all declarations of a file
pub record AreSaid (statements : List Statement) (meaning : Meaning) : Type 0 where
  pub expected : AreExpected meaning.symbols.text.now meaning.symbols.dialect statements
      meaning.expected
  pub generalized : meaning.is_glr ≡ is_generalized statements
  pub starts :
      AreStarts meaning.symbols.text.now meaning.symbols.dialect statements meaning.starts.items

-- all declarations are taken in, and no fault was told
abbrev pub IsSaid : List Statement → Meaning → Meaning → Type 0
IsSaid statements old new =
    vec_len new.faults ≡ 0 → AreApart old.symbols → HasSaid [] old → AreSaid statements new
