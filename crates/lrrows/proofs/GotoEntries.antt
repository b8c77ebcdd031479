-- the entries of a row of gotos, by the edges of the state
use Rattle.std.proofs.Common.{◌≢◌, Ordering, Less, ◌≡◌, ℕ, suc, ◌+◌, ◌<◌, List, [], ◌∷◌, length, map, get_or, refl, sym, ap, ◌∙◌, inl, inr, arith, eq-eqb}
use Rattle.std.specs.List.{All, AllByRecursion, range_with_len}
use Rattle.std.specs.List.Sorted.{IsStrictlySortedBy, IsStrictlyIncreasing}
use Rattle.std.specs.Map.{keys_of}
use Rattle.std.specs.Ordering.{nat_cmp}
use Rattle.std.proofs.lemmas.Bool.{cases_eq, ne_eqb}
use Rattle.std.proofs.lemmas.List.Elements.{All-nil, All-cons}
use Rattle.std.proofs.lemmas.Map.Keys.{IsStrictlyIncreasing-from_sorted}
use Rattle.lrgrammar.specs.declared.idx.RIdx.{RIdx}
use Rattle.lrgrammar.specs.declared.idx.Symbol as stored
use Rattle.lrgrammar.specs.declared.idx.Symbol.TheVariants as code
use Rattle.lrgrammar.specs.SymbolLaws.{symbol_cmp}
use Rattle.lrspec.specs.grammars.Grammar.{Symbol, Rule, Token, Grammar}
use Rattle.lrspec.specs.merging.Graph as math
use Rattle.lrspec.specs.merging.Graph.{Graph, same_symbol, edge, edge_at}
use Rattle.lrgraphs.specs.GraphOf.{edges_of}
use Rattle.lrgraphs.proofs.DistinctSymbols.{AreOnDistinctSymbols, edge_at_place}
use Rattle.lrsparse.specs.Entries.{columns_in, number_in, row_with}
use Rattle.lrrows.specs.ReadGraphs.{IsReadable}
use Rattle.lrrows.specs.StateRows.{goto_row}
use Rattle.lrrows.specs.StoredActions.{goto_number}

-- an edge on a rule gives the rule an entry
abbrev pub goto_first : Symbol → ℕ → List (ℕ × ℕ) → List (ℕ × ℕ)
goto_first (Rule r) u rest = (r, u + 1) ∷ rest
goto_first (Token t) u rest = rest

-- the entries of these edges
abbrev pub goto_entries : List (Symbol × ℕ) → List (ℕ × ℕ)
goto_entries [] = []
goto_entries (e ∷ es) = goto_first e.0 e.1 (goto_entries es)

-- the row has the goto of each rule
number_of_goto : (es : List (Symbol × ℕ)) (r : ℕ) → number_in 0 (goto_entries es) r ≡ goto_number (edge_at es (Rule r))
number_of_goto [] r = refl
number_of_goto (e ∷ es) r = go e.0 e.1 (number_of_goto es r)
  where
    go :
        (x : Symbol) (u : ℕ) → number_in 0 (goto_entries es) r ≡ goto_number (edge_at es (Rule r))
        → number_in 0 (goto_first x u (goto_entries es)) r ≡ goto_number (edge_at ((x, u) ∷ es) (Rule r))
    go (Rule k) u later = elim (cases_eq k r) [
      | inl e ↦ rw (e, eq-eqb r r refl) refl
      | inr n ↦ rw (ne_eqb k r n, ne_eqb r k (λ e. n (sym e))) later
    ]
    go (Token t) u later = later

pub goto_row_is :
    (g : Grammar) (h : Graph) (s : ℕ) (es : List (ℕ × ℕ)) → es ≡ goto_entries (math.edges_of h s)
    → row_with 0 (length g.rule_names) es ≡ goto_row g h s
goto_row_is g h s es made =
    ap (row_with 0 (length g.rule_names)) made
    ∙ same_rows (λ r. number_in 0 (goto_entries (math.edges_of h s)) r) (λ r. goto_number (edge h s (Rule r))) (range_with_len 0 (length g.rule_names)) (number_of_goto (math.edges_of h s))
  where
    same_rows : (f k : ℕ → ℕ) (xs : List ℕ) → ((x : ℕ) → f x ≡ k x) → map f xs ≡ map k xs
    same_rows f k [] e = refl
    same_rows f k (x ∷ xs) e = ap (λ y. y ∷ map f xs) (e x) ∙ ap (λ ys. k x ∷ ys) (same_rows f k xs e)

-- the rules of entries are those of edges
columns_within :
    (n : ℕ) (es : List (Symbol × ℕ))
    → ((i : ℕ) (d : Symbol × ℕ) (r : ℕ) → i < length es → (get_or es i d).0 ≡ Rule r → r < n) → All (λ e. e.0 < n) (goto_entries es)
columns_within n [] below = All-nil (λ e. e.0 < n)
columns_within n (e ∷ es) below = go e.0 e.1 (below 0 e) (columns_within n es (λ i d r l. below (suc i) d r (omega arith)))
  where
    go :
        (x : Symbol) (u : ℕ) → ((r : ℕ) → 0 < suc (length es) → x ≡ Rule r → r < n) → All (λ e. e.0 < n) (goto_entries es)
        → All (λ e. e.0 < n) (goto_first x u (goto_entries es))
    go (Rule r) u first rest = All-cons (λ e. e.0 < n) (r, u + 1) (goto_entries es) (first r (omega arith) refl) rest
    go (Token t) u first rest = rest

-- no entry is empty
pub gotos_some : (es : List (Symbol × ℕ)) → All (λ e. e.1 ≢ 0) (goto_entries es)
gotos_some [] = All-nil (λ e. e.1 ≢ 0)
gotos_some (e ∷ es) = go e.0 e.1 (gotos_some es)
  where
    go : (x : Symbol) (u : ℕ) → All (λ e. e.1 ≢ 0) (goto_entries es) → All (λ e. e.1 ≢ 0) (goto_first x u (goto_entries es))
    go (Rule r) u rest = All-cons (λ e. e.1 ≢ 0) (r, u + 1) (goto_entries es) (λ z. absurd (omega (arith, z))) rest
    go (Token t) u rest = rest

pub gotos_within :
    (g : Grammar) (h : Graph) (s : ℕ) → IsReadable g h → AreOnDistinctSymbols (math.edges_of h s)
    → All (λ e. e.0 < length g.rule_names) (goto_entries (math.edges_of h s))
gotos_within g h s graph distinct =
    columns_within (length g.rule_names) (math.edges_of h s)
    (λ i d r l e.
    graph.rules s r (get_or (math.edges_of h s) i d).1
    (ap (edge_at (math.edges_of h s)) (sym e) ∙ edge_at_place (math.edges_of h s) distinct i d l))

module _
    {T X : Type 0} (number : T → ℕ) (state : X → ℕ) (cmp : stored.Symbol T → stored.Symbol T → Ordering)
    (ordered : (a b : stored.Symbol T) → cmp a b ≡ symbol_cmp number a b)
  where
    abbrev columns : List (stored.Symbol T × X) → List ℕ
    columns es = columns_in (goto_entries (edges_of number state es))

    -- the rules behind a rule are above it
    above : (a : RIdx T) (es : List (stored.Symbol T × X)) → AllByRecursion (λ y. cmp (code.Rule a) y ≡ Less) (keys_of es) → AllByRecursion (λ c. nat_cmp (number a.0) c ≡ Less) (columns es)
    above a [] less = tt
    above a (e ∷ es) less = go e.0 e.1 less.0 (above a es less.1)
      where
        go :
            (x : stored.Symbol T) (u : X) → cmp (code.Rule a) x ≡ Less → AllByRecursion (λ c. nat_cmp (number a.0) c ≡ Less) (columns es)
            → AllByRecursion (λ c. nat_cmp (number a.0) c ≡ Less) (columns ((x, u) ∷ es))
        go (code.Rule b) u first rest = (sym (ordered (code.Rule a) (code.Rule b)) ∙ first, rest)
        go (code.Token t) u first rest = rest

    sorted_columns : (es : List (stored.Symbol T × X)) → IsStrictlySortedBy cmp (keys_of es) → IsStrictlySortedBy nat_cmp (columns es)
    unfolding IsStrictlySortedBy
    sorted_columns [] sorted = tt
    sorted_columns (e ∷ es) sorted = go e.0 e.1 sorted.0 (sorted_columns es sorted.1)
      where
        go :
            (x : stored.Symbol T) (u : X) → AllByRecursion (λ y. cmp x y ≡ Less) (keys_of es) → IsStrictlySortedBy nat_cmp (columns es)
            → IsStrictlySortedBy nat_cmp (columns ((x, u) ∷ es))
        go (code.Rule a) u first rest = (above a es first, rest)
        go (code.Token t) u first rest = rest

    -- the keys of a map come upwards, and so do the rules of the entries
    pub gotos_upwards : (es : List (stored.Symbol T × X)) → IsStrictlySortedBy cmp (keys_of es) → IsStrictlyIncreasing (columns es)
    gotos_upwards es sorted = IsStrictlyIncreasing-from_sorted (columns es) (sorted_columns es sorted)
