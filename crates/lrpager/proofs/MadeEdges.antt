-- a map that is made at once of edges, of which no symbol has two, has these edges
use Rattle.std.proofs.Common.{◌≡◌, ℕ, ◌≤◌, Bool, true, false, cond, List, [], ◌∷◌, Option, None, Some, length, refl, sym, ap, ◌∙◌}
use Rattle.std.specs.Prelude.{option_map}
use Rattle.std.specs.BTreeMap.{BTreeMap, IsFromIterResult, is_at}
use Rattle.std.specs.Cmp.{IsEquivalence}
use Rattle.std.specs.List.{IsDistinct, AllByRecursion}
use Rattle.std.specs.Map.{keys_of, lookup}
use Rattle.std.specs.Option.{is_some}
use Rattle.std.specs.Ordering.{eq_by_cmp}
use Rattle.std.specs.declared.cmp.Ordering.{Ordering}
use Rattle.std.proofs.lemmas.List.{length-map}
use Rattle.std.proofs.lemmas.Map.Keys.{IsDistinct-from_sorted}
use Rattle.std.proofs.lemmas.Map.Made.{update_all_none, is_some-lookup}
use Rattle.std.proofs.lemmas.Map.Steps.{length-le_from_keys}
use Rattle.lrgrammar.specs.declared.idx.Symbol.{Symbol}
use Rattle.lrgrammar.specs.Symbols.{symbol_of}
use Rattle.lrgrammar.specs.SymbolLaws.{symbol_cmp}
use Rattle.lrspec.specs.grammars.Grammar as math
use Rattle.lrspec.specs.merging.Graph.{same_symbol, edge_at}
use Rattle.lrgraphs.specs.GraphOf.{edges_of}
use Rattle.lrgraphs.proofs.EdgeFacts.{by_numbers, symbol_from_test, test_from_symbol, swap, edge_here, key_at}
use Rattle.lrplacing.specs.Construction.{HasEdgesOnce}

module _
    {T X : Type 0} (number : T → ℕ) (state : X → ℕ) (cmp : Symbol T → Symbol T → Ordering)
    (ordered : (a b : Symbol T) → cmp a b ≡ symbol_cmp number a b)
  where
    agrees : (a b : Symbol T) → eq_by_cmp cmp a b ≡ same_symbol (symbol_of number a) (symbol_of number b)
    agrees a b = rw (ordered a b) (by_numbers number a b)

    laws : IsEquivalence (eq_by_cmp cmp)
    laws = record {
      refl = λ a. agrees a a ∙ test_from_symbol (symbol_of number a);
      symm = λ a b. agrees a b ∙ swap (symbol_of number a) (symbol_of number b) ∙ sym (agrees b a);
      congr = λ a b c same.
          let e : symbol_of number a ≡ symbol_of number b = symbol_from_test (symbol_of number a) (symbol_of number b) (sym (agrees a b) ∙ same) in
          agrees a c ∙ ap (λ x. same_symbol x (symbol_of number c)) e ∙ sym (agrees b c);
    }

    none_on : (k : Symbol T) (es : List (Symbol T × X)) → edge_at (edges_of number state es) (symbol_of number k) ≡ None → AllByRecursion (λ q. eq_by_cmp cmp k q ≡ false) (keys_of es)
    none_on k [] n = tt
    none_on k (e ∷ es) n = go (same_symbol (symbol_of number k) (symbol_of number e.0)) (agrees k e.0) n (none_on k es)
      where
        go :
            (b : Bool) → eq_by_cmp cmp k e.0 ≡ b → cond b (Some (state e.1)) (edge_at (edges_of number state es) (symbol_of number k)) ≡ None
            → (edge_at (edges_of number state es) (symbol_of number k) ≡ None → AllByRecursion (λ q. eq_by_cmp cmp k q ≡ false) (keys_of es))
            → AllByRecursion (λ q. eq_by_cmp cmp k q ≡ false) (keys_of (e ∷ es))
        go true t n r = absurd (cc)
        go false t n r = (t, r n)

    distinct_keys : (es : List (Symbol T × X)) → HasEdgesOnce (edges_of number state es) → IsDistinct (eq_by_cmp cmp) (keys_of es)
    unfolding IsDistinct
    distinct_keys [] once = tt
    distinct_keys (e ∷ es) once = (none_on e.0 es once.0, distinct_keys es once.1)

    module _ (es : List (Symbol T × X)) (n : BTreeMap (Symbol T) X) (once : HasEdgesOnce (edges_of number state es)) (made : IsFromIterResult cmp es n) where
      found : (q : Symbol T) → lookup (is_at (cmp q)) n.entries ≡ lookup (is_at (cmp q)) es
      found q = made.0 q ∙ update_all_none laws (eq_by_cmp cmp) (λ x y. refl) es q (distinct_keys es once)

      at_key : (q : Symbol T) (y : math.Symbol) → symbol_of number q ≡ y → edge_at (edges_of number state n.entries) y ≡ edge_at (edges_of number state es) y
      at_key q y i = rw (← i, ← edge_here number state cmp ordered n.entries q, ← edge_here number state cmp ordered es q) (ap (option_map state) (found q))

      pub made_edges : (y : math.Symbol) → edge_at (edges_of number state n.entries) y ≡ edge_at (edges_of number state es) y
      made_edges y = go (edge_at (edges_of number state n.entries) y) (edge_at (edges_of number state es) y) refl refl
        where
          go :
              (a b : Option ℕ) → edge_at (edges_of number state n.entries) y ≡ a → edge_at (edges_of number state es) y ≡ b
              → edge_at (edges_of number state n.entries) y ≡ edge_at (edges_of number state es) y
          go (Some a) b h i = let q = key_at number state cmp ordered n.entries y a h in at_key q.0 y q.1
          go None (Some b) h i = let q = key_at number state cmp ordered es y b i in at_key q.0 y q.1
          go None None h i = h ∙ sym i

      -- the map has no more entries than there were edges
      pub few_entries : length n.entries ≤ length es
      few_entries =
          let l = length-le_from_keys laws (keys_of n.entries) es (IsDistinct-from_sorted cmp (keys_of n.entries) made.1)
          (λ q h. sym (ap is_some (found q)) ∙ is_some-lookup (is_at (cmp q)) n.entries ∙ h) in
          rw length-map at l
