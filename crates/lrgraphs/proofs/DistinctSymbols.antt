-- the edges of a map are on different symbols
use Rattle.std.proofs.Common.{Ordering, Less, ◌≡◌, ◌≢◌, ℕ, zero, suc, ◌<◌, Bool, true, false, List, [], ◌∷◌, length, map, get_or, Some, refl, sym, ap, ◌∙◌, arith, AllPairs}
use Rattle.std.specs.List.Sorted.{IsStrictlySortedBy}
use Rattle.std.specs.Ordering.{is_eq}
use Rattle.std.specs.Map.{keys_of}
use Rattle.std.proofs.lemmas.List.{length-map, get_or-map}
use Rattle.std.proofs.lemmas.Map.Keys.{Less-from_sorted}
use Rattle.lrgrammar.specs.declared.idx.Symbol as stored
use Rattle.lrgrammar.specs.Symbols.{symbol_of}
use Rattle.lrgrammar.specs.SymbolLaws.{symbol_cmp}
use Rattle.lrspec.specs.grammars.Grammar.{Symbol}
use Rattle.lrspec.specs.merging.Graph.{same_symbol, edge_at}
use Rattle.lrgraphs.specs.GraphOf.{edges_of}
use Rattle.lrgraphs.proofs.EdgeFacts.{by_numbers, symbol_from_test, test_from_symbol}

-- no two of the edges are on one symbol
abbrev pub AreOnDistinctSymbols : List (Symbol × ℕ) → Type 0
AreOnDistinctSymbols es = AllPairs (λ (e f : Symbol × ℕ). e.0 ≢ f.0) es

same_symbol_differ : (x y : Symbol) → x ≢ y → same_symbol x y ≡ false
same_symbol_differ x y n = go (same_symbol x y) refl
  where
    go : (b : Bool) → same_symbol x y ≡ b → b ≡ false
    go true e = absurd (n (symbol_from_test x y e))
    go false e = refl

-- each edge is the one that is found on its symbol
pub edge_at_place :
    (es : List (Symbol × ℕ)) → AreOnDistinctSymbols es → (i : ℕ) (d : Symbol × ℕ) → i < length es
    → edge_at es (get_or es i d).0 ≡ Some (get_or es i d).1
edge_at_place [] k i d l = absurd (omega arith)
edge_at_place (e ∷ es) k zero d l = rw (test_from_symbol e.0) refl
edge_at_place (e ∷ es) k (suc i) d l =
    let differ : (get_or es i d).0 ≢ e.0 = λ z. k 0 (suc i) d (omega arith) l (sym z) in
    rw (same_symbol_differ (get_or es i d).0 e.0 differ) (edge_at_place es (λ i j d l m. k (suc i) (suc j) d (omega arith) (omega arith)) i d (omega arith))

module _ {T X : Type 0} (number : T → ℕ) (state : X → ℕ) (cmp : stored.Symbol T → stored.Symbol T → Ordering) (ordered : (a b : stored.Symbol T) → cmp a b ≡ symbol_cmp number a b) where
  less_differ : (a b : stored.Symbol T) → cmp a b ≡ Less → symbol_of number a ≢ symbol_of number b
  less_differ a b l e =
      let apart : same_symbol (symbol_of number a) (symbol_of number b) ≡ false = sym (by_numbers number a b) ∙ ap is_eq (sym (ordered a b) ∙ l) in
      let same : same_symbol (symbol_of number a) (symbol_of number b) ≡ true = rw e (test_from_symbol (symbol_of number b)) in
      cc

  -- the entries of a map are on different symbols
  pub distinct_entries : (es : List (stored.Symbol T × X)) → IsStrictlySortedBy cmp (keys_of es) → AreOnDistinctSymbols (edges_of number state es)
  distinct_entries [] sorted i j d l m = absurd (omega arith)
  distinct_entries (e ∷ es) sorted i j d l m =
      let key : stored.Symbol T × X → stored.Symbol T = λ f. f.0 in
      let shown : stored.Symbol T × X → Symbol × ℕ = λ f. (symbol_of number f.0, state f.1) in
      let n : j < length (e ∷ es) = rw length-map at m in
      let o : i < length (e ∷ es) = omega (arith, l, n) in
      let less = Less-from_sorted cmp (map key (e ∷ es)) i j e.0 sorted l (rw length-map n) in
      let keys = rw (get_or-map key (e ∷ es) i e e.0 o, get_or-map key (e ∷ es) j e e.0 n) at less in
      rw (get_or-map shown (e ∷ es) i e d o, get_or-map shown (e ∷ es) j e d n) (less_differ (get_or (e ∷ es) i e).0 (get_or (e ∷ es) j e).0 keys)
