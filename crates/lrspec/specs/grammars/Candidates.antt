-- what can be done on a token after a list of symbols, and where that is contested
use Rattle.std.specs.Prelude.{◌≢◌, ℕ, List, length}
use Rattle.lrspec.specs.grammars.Grammar.{Symbol, Token, Grammar, body_of}
use Rattle.lrspec.specs.grammars.CanonicalItems.{Stands, Looks}
use Rattle.lrspec.specs.grammars.ItemSets.{IsBefore}

-- what can be done on a token: shift it, reduce by a production, or accept
pub data Candidate : Type 0 where
  Shift : Candidate
  Reduce : ℕ → Candidate
  Accept : Candidate

-- what can be done on the token `t` after the list `w`, by the canonical LR(1) items
pub data IsCandidate (g : Grammar) (w : List Symbol) (t : ℕ) : Candidate → Type 0 where
  shift : {p d : ℕ} → Stands g w p d → IsBefore g p d (Token t) → IsCandidate g w t Shift
  reduce :
      {p : ℕ} → p ≢ g.start_production → Looks g w p (length (body_of g p)) t
      → IsCandidate g w t (Reduce p)
  accept :
      Looks g w g.start_production (length (body_of g g.start_production)) t
      → IsCandidate g w t Accept

-- the token has two different candidates after the list
pub record IsContested (g : Grammar) (w : List Symbol) (t : ℕ) : Type 0 where
  pub one : Candidate
  pub other : Candidate
  pub differ : one ≢ other
  pub is_one : IsCandidate g w t one
  pub is_other : IsCandidate g w t other

-- no token is contested after any list
abbrev pub IsUncontested : Grammar → Type 0
IsUncontested g = (w : List Symbol) (t : ℕ) → IsContested g w t → ⊥
