-- the shift/reduce conflicts of a state, by its edges on tokens
use Rattle.std.proofs.Common.{Ordering, Less, ◌≡◌, ℕ, zero, suc, ◌+◌, ◌<◌, ◌≤◌, cond, List, [], ◌∷◌, Option, None, Some, length, get_or, refl, sym, ap, ◌∙◌, inl, inr, arith, eq-eqb}
use Rattle.std.specs.Prelude.{◌==◌, if◌then◌else◌}
use Rattle.std.specs.List.{AllByRecursion, filter_map, cons_option, range_with_len}
use Rattle.std.specs.List.Sorted.{IsStrictlySortedBy}
use Rattle.std.specs.Map.{keys_of}
use Rattle.std.specs.Ordering.{nat_cmp}
use Rattle.std.proofs.lemmas.Bool.{cases_eq, ne_eqb}
use Rattle.std.proofs.lemmas.Bool.Decides.{nat_tests}
use Rattle.lrgrammar.specs.declared.idx.TIdx.{TIdx}
use Rattle.lrgrammar.specs.declared.idx.Symbol as stored
use Rattle.lrgrammar.specs.declared.idx.Symbol.TheVariants as code
use Rattle.lrgrammar.specs.SymbolLaws.{symbol_cmp}
use Rattle.lrspec.specs.grammars.Grammar.{Symbol, Rule, Token, Grammar, token_count}
use Rattle.lrspec.specs.merging.Graph as math
use Rattle.lrspec.specs.merging.Graph.{Graph, closed_of, edge, edge_at}
use Rattle.lrspec.specs.tables.Table.{reductions, shift_reduce_entry}
use Rattle.lrgraphs.specs.GraphOf.{edges_of}
use Rattle.lrgraphs.proofs.DistinctSymbols.{AreOnDistinctSymbols, edge_at_place}
use Rattle.lrrows.specs.ReadGraphs.{IsReadable}
use Rattle.lrrows.specs.StateRows.{shift_reduce_at}

-- an edge on a token stands before those on tokens that come behind it
abbrev pub token_first : Symbol → ℕ → List (ℕ × ℕ) → List (ℕ × ℕ)
token_first (Rule r) u rest = rest
token_first (Token t) u rest = (t, u) ∷ rest

-- the edges on tokens, each with its token
abbrev pub token_edges : List (Symbol × ℕ) → List (ℕ × ℕ)
token_edges [] = []
token_edges (e ∷ es) = token_first e.0 e.1 (token_edges es)

-- where the first of them on the token leads
abbrev target_on : List (ℕ × ℕ) → ℕ → Option ℕ
target_on [] t = None
target_on (e ∷ es) t = if t == e.0 then Some e.1 else target_on es t

target_is : (es : List (Symbol × ℕ)) (t : ℕ) → edge_at es (Token t) ≡ target_on (token_edges es) t
target_is [] t = refl
target_is (e ∷ es) t = go e.0 e.1 (target_is es t)
  where
    go : (x : Symbol) (u : ℕ) → edge_at es (Token t) ≡ target_on (token_edges es) t → edge_at ((x, u) ∷ es) (Token t) ≡ target_on (token_first x u (token_edges es)) t
    go (Rule r) u later = later
    go (Token k) u later = ap (cond (t == k) (Some u)) later

-- each token is above those before it
abbrev pub Ascend : List (ℕ × ℕ) → Type 0
Ascend [] = Unit {0}
Ascend (e ∷ es) = AllByRecursion (λ f. e.0 < f.0) es × Ascend es

each_weaker : {X : Type 0} (P Q : X → Type 0) → ((x : X) → P x → Q x) → (xs : List X) → AllByRecursion P xs → AllByRecursion Q xs
each_weaker P Q f [] h = tt
each_weaker P Q f (x ∷ xs) h = (f x h.0, each_weaker P Q f xs h.1)

-- there is none on a token below all
none_below : (es : List (ℕ × ℕ)) (t : ℕ) → AllByRecursion (λ e. t < e.0) es → target_on es t ≡ None
none_below [] t h = refl
none_below (e ∷ es) t h = rw (ne_eqb t e.0 (λ i. absurd (omega (arith, i, h.0)))) (none_below es t h.1)

module _ {Y : Type 0} where
  same_on_range : (f k : ℕ → Option Y) (n a : ℕ) → ((t : ℕ) → a ≤ t → f t ≡ k t) → filter_map f (range_with_len a n) ≡ filter_map k (range_with_len a n)
  same_on_range f k zero a h = refl
  same_on_range f k (suc n) a h = rw (h a (omega arith)) (ap (cons_option (k a)) (same_on_range f k n (a + 1) (λ t l. h t (omega arith))))

  module _ (k : ℕ → Option ℕ → Option Y) (none : (t : ℕ) → k t None ≡ None) where
    -- what the edges on tokens give
    abbrev given_by : List (ℕ × ℕ) → List Y
    given_by es = filter_map (λ e. k e.0 (Some e.1)) es

    nothing_given : (n a : ℕ) → filter_map (λ t. k t None) (range_with_len a n) ≡ []
    nothing_given zero a = refl
    nothing_given (suc n) a = rw (none a) (nothing_given n (a + 1))

    -- is what all tokens give, where those on which there is no edge give nothing
    given_on_range :
        (n a : ℕ) (es : List (ℕ × ℕ)) → Ascend es → AllByRecursion (λ e. a ≤ e.0) es → AllByRecursion (λ e. e.0 < a + n) es
        → filter_map (λ t. k t (target_on es t)) (range_with_len a n) ≡ given_by es
    given_on_range n a [] up low high = nothing_given n a
    given_on_range zero a (e ∷ es) up low high = absurd (omega (arith, low.0, high.0))
    given_on_range (suc n) a (e ∷ es) up low high = elim (cases_eq a e.0) [
      | inl i ↦
          let later = given_on_range n (a + 1) es up.1
          (each_weaker (λ f. e.0 < f.0) (λ f. a + 1 ≤ f.0) (λ f l. omega (arith, l, i)) es up.0)
          (each_weaker (λ f. f.0 < a + suc n) (λ f. f.0 < a + 1 + n) (λ f l. omega (arith, l)) es high.1) in
          let passed = same_on_range (λ t. k t (target_on (e ∷ es) t)) (λ t. k t (target_on es t)) n (a + 1)
          (λ t l. rw (ne_eqb t e.0 (λ j. absurd (omega (arith, i, j, l)))) refl) in
          let here : k a (target_on (e ∷ es) a) ≡ k e.0 (Some e.1) = rw (eq-eqb a e.0 i) (ap (λ t. k t (Some e.1)) i) in
          rw here (ap (cons_option (k e.0 (Some e.1))) (passed ∙ later))
      | inr differ ↦
          let above = each_weaker (λ f. e.0 < f.0) (λ f. a + 1 ≤ f.0) (λ f l. omega (arith, l, low.0)) es up.0 in
          let later = given_on_range n (a + 1) (e ∷ es) up (omega (arith, differ, low.0), above)
          (each_weaker (λ f. f.0 < a + suc n) (λ f. f.0 < a + 1 + n) (λ f l. omega (arith, l)) (e ∷ es) high) in
          let absent = none_below (e ∷ es) a (omega (arith, differ, low.0), each_weaker (λ f. a + 1 ≤ f.0) (λ f. a < f.0) (λ f l. omega (arith, l)) es above) in
          let here : k a (target_on (e ∷ es) a) ≡ None = ap (k a) absent ∙ none a in
          rw here later
    ]

-- tokens of edges on different symbols of a graph are the grammar's
tokens_within :
    (n : ℕ) (es : List (Symbol × ℕ)) → ((i : ℕ) (d : Symbol × ℕ) (t : ℕ) → i < length es → (get_or es i d).0 ≡ Token t → t < n)
    → AllByRecursion (λ e. e.0 < n) (token_edges es)
tokens_within n [] below = tt
tokens_within n (e ∷ es) below = go e.0 e.1 (below 0 e) (tokens_within n es (λ i d t l. below (suc i) d t (omega arith)))
  where
    go :
        (x : Symbol) (u : ℕ) → ((t : ℕ) → 0 < suc (length es) → x ≡ Token t → t < n) → AllByRecursion (λ e. e.0 < n) (token_edges es)
        → AllByRecursion (λ e. e.0 < n) (token_first x u (token_edges es))
    go (Rule r) u first rest = rest
    go (Token t) u first rest = (first t (omega arith) refl, rest)

module _
    {T X : Type 0} (number : T → ℕ) (state : X → ℕ) (cmp : stored.Symbol T → stored.Symbol T → Ordering)
    (ordered : (a b : stored.Symbol T) → cmp a b ≡ symbol_cmp number a b)
  where
    less_number : (m n : ℕ) → nat_cmp m n ≡ Less → m < n
    less_number m n h = grind (arith, nat_tests)

    above_token :
        (a : TIdx T) (es : List (stored.Symbol T × X)) → AllByRecursion (λ y. cmp (code.Token a) y ≡ Less) (keys_of es)
        → AllByRecursion (λ f. number a.0 < f.0) (token_edges (edges_of number state es))
    above_token a [] less = tt
    above_token a (e ∷ es) less = go e.0 e.1 less.0 (above_token a es less.1)
      where
        go :
            (x : stored.Symbol T) (u : X) → cmp (code.Token a) x ≡ Less → AllByRecursion (λ f. number a.0 < f.0) (token_edges (edges_of number state es))
            → AllByRecursion (λ f. number a.0 < f.0) (token_edges (edges_of number state ((x, u) ∷ es)))
        go (code.Rule r) u first rest = rest
        go (code.Token b) u first rest = (less_number (number a.0) (number b.0) (sym (ordered (code.Token a) (code.Token b)) ∙ first), rest)

    -- the keys of a map come upwards, and so do the tokens of its edges
    pub tokens_ascend : (es : List (stored.Symbol T × X)) → IsStrictlySortedBy cmp (keys_of es) → Ascend (token_edges (edges_of number state es))
    unfolding IsStrictlySortedBy
    tokens_ascend [] sorted = tt
    tokens_ascend (e ∷ es) sorted = go e.0 e.1 sorted.0 (tokens_ascend es sorted.1)
      where
        go :
            (x : stored.Symbol T) (u : X) → AllByRecursion (λ y. cmp x y ≡ Less) (keys_of es) → Ascend (token_edges (edges_of number state es))
            → Ascend (token_edges (edges_of number state ((x, u) ∷ es)))
        go (code.Rule r) u first rest = rest
        go (code.Token a) u first rest = (above_token a es first, rest)

-- the entry for an edge on a token
abbrev pub entry_of : Grammar → Graph → ℕ → ℕ → Option ℕ → Option (ℕ × ℕ × ℕ)
entry_of g h s t o = shift_reduce_entry g (reductions g (closed_of h s) t) o s t

no_entry : (g : Grammar) (rs : List ℕ) (s t : ℕ) → shift_reduce_entry g rs None s t ≡ None
no_entry g [] s t = refl
no_entry g (p ∷ ps) s t = refl

-- the tokens of a state's edges are the grammar's
pub state_tokens_within :
    (g : Grammar) (h : Graph) (s : ℕ) → IsReadable g h → AreOnDistinctSymbols (math.edges_of h s)
    → AllByRecursion (λ e. e.0 < token_count g) (token_edges (math.edges_of h s))
state_tokens_within g h s graph distinct =
    let es = math.edges_of h s in
    tokens_within (token_count g) es (λ i d t l e. graph.tokens s t (get_or es i d).1 (ap (edge_at es) (sym e) ∙ edge_at_place es distinct i d l))

-- the entries for the edges of a state are its conflicts
pub conflicts_of_edges :
    (g : Grammar) (h : Graph) (s : ℕ) → IsReadable g h → AreOnDistinctSymbols (math.edges_of h s) → Ascend (token_edges (math.edges_of h s))
    → filter_map (λ e. entry_of g h s e.0 (Some e.1)) (token_edges (math.edges_of h s)) ≡ shift_reduce_at g h s
conflicts_of_edges g h s graph distinct up =
    let es = math.edges_of h s in
    let within = state_tokens_within g h s graph distinct in
    let low = each_weaker (λ e. e.0 < token_count g) (λ e. 0 ≤ e.0) (λ e l. omega arith) (token_edges es) within in
    let high = each_weaker (λ e. e.0 < token_count g) (λ e. e.0 < 0 + token_count g) (λ e l. omega (arith, l)) (token_edges es) within in
    let all = given_on_range (entry_of g h s) (λ t. no_entry g (reductions g (closed_of h s) t) s t) (token_count g) 0 (token_edges es) up low high in
    let same = same_on_range (λ t. entry_of g h s t (edge h s (Token t))) (λ t. entry_of g h s t (target_on (token_edges es) t)) (token_count g) 0
    (λ t l. ap (entry_of g h s t) (target_is es t)) in
    sym (same ∙ all)
