-- states under construction past the end of their list, and the test of symbols
use Rattle.std.proofs.Common.{◌≡◌, ℕ, zero, suc, ◌<◌, ◌≤◌, true, false, List, [], ◌∷◌, None, Some, length, refl, ap, inl, inr, arith}
use Rattle.std.specs.Prelude.{slice_get}
use Rattle.std.proofs.lemmas.Bool.{cases_lt, eqb-true, eq-eqb}
use Rattle.lrspec.specs.grammars.Grammar.{Symbol, Rule, Token}
use Rattle.lrspec.specs.merging.Graph.{same_symbol, edge_at}
use Rattle.lrplacing.specs.Construction.{Draft, closed_at, edge_from, draft_closed, draft_edges}

-- there is no state past the end
pub none_past : (ss : List Draft) (k : ℕ) → length ss ≤ k → slice_get ss k ≡ None
none_past [] k h = refl
none_past (s ∷ ss) zero h = absurd (omega arith)
none_past (s ∷ ss) (suc k) h = none_past ss k (omega arith)

-- so a closed state is one of them
pub closed_below : (ss : List Draft) (k : ℕ) → closed_at ss k ≡ true → k < length ss
closed_below ss k e =
    elim (cases_lt k (length ss)) [
      | inl lt ↦ lt
      | inr past ↦ let none : closed_at ss k ≡ false = ap draft_closed (none_past ss k past) in absurd (cc)
    ]

-- and so is one with an edge
pub edge_below : (ss : List Draft) (k u : ℕ) (x : Symbol) → edge_from ss k x ≡ Some u → k < length ss
edge_below ss k u x e =
    elim (cases_lt k (length ss)) [
      | inl lt ↦ lt
      | inr past ↦ let none : edge_from ss k x ≡ None = ap (λ o. edge_at (draft_edges o) x) (none_past ss k past) in absurd (cc)
    ]

-- a symbol is the same as itself
pub same_symbol_itself : (x : Symbol) → same_symbol x x ≡ true
same_symbol_itself (Rule r) = eq-eqb r r refl
same_symbol_itself (Token t) = eq-eqb t t refl

-- symbols that are tested to be the same are equal
pub symbol_equal : (x y : Symbol) → same_symbol x y ≡ true → x ≡ y
symbol_equal (Rule r) (Rule s) e = ap Rule (eqb-true r s e)
symbol_equal (Rule r) (Token t) e = cc
symbol_equal (Token t) (Rule s) e = cc
symbol_equal (Token t) (Token u) e = ap Token (eqb-true t u e)
