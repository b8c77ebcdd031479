-- edges in a list, no symbol with two: one more at the end
use Rattle.std.proofs.Common.{◌≡◌, ℕ, Bool, true, false, cond, List, [], ◌∷◌, ◌++◌, Option, None, Some, refl, ap, ◌∙◌}
use Rattle.std.specs.Prelude.{if◌then◌else◌}
use Rattle.std.proofs.lemmas.List.{map-append}
use Rattle.lrgrammar.specs.declared.idx.Symbol as stored
use Rattle.lrgrammar.specs.Symbols.{symbol_of}
use Rattle.lrspec.specs.grammars.Grammar.{Symbol}
use Rattle.lrspec.specs.merging.Graph.{same_symbol, edge_at}
use Rattle.lrgraphs.specs.GraphOf.{edges_of}
use Rattle.lrplacing.specs.Construction.{HasEdgesOnce}
use Rattle.lrplacing.proofs.DraftFacts.{same_symbol_itself, symbol_equal}

-- where no edge is on a symbol, the first one isn't and none of the others is
free_parts : (b : Bool) (n : ℕ) (o : Option ℕ) → cond b (Some n) o ≡ None → (b ≡ false) × (o ≡ None)
free_parts true n o e = cc
free_parts false n o e = (refl, e)

-- symbols that fail the test fail it the other way round
differ_back : (x y : Symbol) → same_symbol x y ≡ false → same_symbol y x ≡ false
differ_back x y e = go (same_symbol y x) refl
  where
    go : (b : Bool) → same_symbol y x ≡ b → same_symbol y x ≡ false
    go true h = let same : same_symbol x y ≡ true = rw (symbol_equal y x h) (same_symbol_itself x) in cc
    go false h = h

-- no symbol is the same as each of two that differ, so the order of these tests doesn't matter
tests_swapped :
    (x y z : Symbol) (n to : ℕ) (o : Option ℕ) → same_symbol x z ≡ false
    → cond (same_symbol y z) (Some n) (cond (same_symbol y x) (Some to) o)
    ≡ cond (same_symbol y x) (Some to) (cond (same_symbol y z) (Some n) o)
tests_swapped x y z n to o e = go (same_symbol y z) refl
  where
    go :
        (b : Bool) → same_symbol y z ≡ b
        → cond b (Some n) (cond (same_symbol y x) (Some to) o) ≡ cond (same_symbol y x) (Some to) (cond b (Some n) o)
    go true h = rw (symbol_equal y z h, differ_back x z e) refl
    go false h = refl

-- where an edge on a symbol that had none stands at the end, it is found, and the others are as before
pub edge_pushed :
    (es : List (Symbol × ℕ)) (x : Symbol) (to : ℕ) → edge_at es x ≡ None → (y : Symbol)
    → edge_at (es ++ (x, to) ∷ []) y ≡ if same_symbol y x then Some to else edge_at es y
edge_pushed [] x to n y = refl
edge_pushed (e ∷ es) x to n y =
    let parts = free_parts (same_symbol x e.0) e.1 (edge_at es x) n in
    ap (λ o. cond (same_symbol y e.0) (Some e.1) o) (edge_pushed es x to parts.1 y) ∙ tests_swapped x y e.0 e.1 to (edge_at es y) parts.0

-- and no symbol has two edges still
pub once_pushed :
    (es : List (Symbol × ℕ)) (x : Symbol) (to : ℕ) → HasEdgesOnce es → edge_at es x ≡ None → HasEdgesOnce (es ++ (x, to) ∷ [])
once_pushed [] x to h n = (refl, tt)
once_pushed (e ∷ es) x to h n =
    let parts = free_parts (same_symbol x e.0) e.1 (edge_at es x) n in
    (edge_pushed es x to parts.1 e.0 ∙ rw (differ_back x e.0 parts.0) h.0, once_pushed es x to h.1 parts.1)

-- the same of stored edges
module _ {T : Type 0} (number : T → ℕ) (es fs : List (stored.Symbol T × ℕ)) (k : stored.Symbol T) (to : ℕ) (e : fs ≡ es ++ (k, to) ∷ []) where
  pushed_is : edges_of number (λ u. u) fs ≡ edges_of number (λ u. u) es ++ (symbol_of number k, to) ∷ []
  pushed_is = ap (edges_of number (λ u. u)) e ∙ map-append (λ (f : stored.Symbol T × ℕ). (symbol_of number f.0, f.1)) es ((k, to) ∷ [])

  module _ (free : edge_at (edges_of number (λ u. u) es) (symbol_of number k) ≡ None) where
    pub stored_edge :
        (y : Symbol)
        → edge_at (edges_of number (λ u. u) fs) y
        ≡ if same_symbol y (symbol_of number k) then Some to else edge_at (edges_of number (λ u. u) es) y
    stored_edge y = rw pushed_is (edge_pushed (edges_of number (λ u. u) es) (symbol_of number k) to free y)

    pub stored_once : HasEdgesOnce (edges_of number (λ u. u) es) → HasEdgesOnce (edges_of number (λ u. u) fs)
    stored_once h = rw pushed_is (once_pushed (edges_of number (λ u. u) es) (symbol_of number k) to h free)
