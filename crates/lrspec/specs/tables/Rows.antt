-- what the row of a state in a table says: its tokens, and the productions by which it reduces
use Rattle.std.specs.Prelude.{◌≡◌, ◌≢◌, ℕ, List, Contains, length, ◌↔◌, ◌⊎◌}
use Rattle.std.specs.List.Sorted.{IsStrictlyIncreasing}
use Rattle.lrspec.specs.grammars.Grammar.{Grammar, body_of, rule_of}
use Rattle.lrspec.specs.tables.Table.{Shift, Reduce, Error, Table, action_of}

-- the numbers of which `P` holds, upwards
pub record AreAllWith (P : ℕ → Type 0) (ns : List ℕ) : Type 0 where
  pub upwards : IsStrictlyIncreasing ns
  pub members : (n : ℕ) → Contains ns n ↔ P n

-- the tokens on which the state does not err
abbrev pub AreActingTokens : Table → ℕ → List ℕ → Type 0
AreActingTokens b s ts = AreAllWith (λ t. action_of b s t ≢ Error) ts

-- the tokens that the state shifts
abbrev pub AreShiftedTokens : Table → ℕ → List ℕ → Type 0
AreShiftedTokens b s ts = AreAllWith (λ t. (u : ℕ) × (action_of b s t ≡ Shift u)) ts

-- the productions by which the state reduces on some token
abbrev pub AreReducedBy : Table → ℕ → List ℕ → Type 0
AreReducedBy b s ps = AreAllWith (λ p. (t : ℕ) × (action_of b s t ≡ Reduce p)) ps

-- the state reduces by one production, and does nothing else
abbrev pub ReducesOnly : Table → ℕ → Type 0
ReducesOnly b s =
    (p : ℕ) × ((t : ℕ) × (action_of b s t ≡ Reduce p))
    × ((t : ℕ) → (action_of b s t ≡ Error) ⊎ (action_of b s t ≡ Reduce p))

-- a state reduces by no two productions of one rule and one length
abbrev pub ReducesApart : Grammar → Table → Type 0
ReducesApart g b =
    (s t u p q : ℕ) → action_of b s t ≡ Reduce p → action_of b s u ≡ Reduce q
    → rule_of g p ≡ rule_of g q → length (body_of g p) ≡ length (body_of g q) → p ≡ q
