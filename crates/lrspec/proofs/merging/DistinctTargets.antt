-- edges out of one state lead to different states, so a graph has no more edges than pairs of states
use Rattle.std.proofs.Common.{Ordering, Less, ◌≡◌, ◌≢◌, ℕ, zero, suc, ◌*◌, ◌^◌, ◌<◌, ◌≤◌, true, eqb, List, [], ◌∷◌, length, map, get_or, Some, refl, sym, ap, ◌∙◌, arith, All, AllPairs, sum_by}
use Rattle.std.specs.List.{IsDistinct, list_any}
use Rattle.std.specs.List.Sorted.{IsStrictlySortedBy}
use Rattle.std.proofs.lemmas.Bool.{eqb-true, ne_eqb}
use Rattle.std.proofs.lemmas.Nat.{mul-lt}
use Rattle.std.proofs.lemmas.Option.{slice_get-get_or}
use Rattle.std.proofs.lemmas.List.{length-map, get_or-map}
use Rattle.std.proofs.lemmas.List.Folds.{Any-from_list_any}
use Rattle.std.proofs.lemmas.List.Sums.{sum_by-le}
use Rattle.std.proofs.lemmas.Map.Keys.{IsDistinct-from_apart, Less-from_sorted}
use Rattle.std.proofs.lemmas.Map.Steps.{length-le_from_distinct_below}
use Rattle.lrspec.specs.grammars.Grammar.{Symbol, Rule, Grammar}
use Rattle.lrspec.specs.merging.Graph.{State, Graph, edge_at, edges_or_none, edge, ContainGotos, AreReached}
use Rattle.lrspec.proofs.merging.SameSymbols.{same_symbol_itself, same_symbol_differ}

-- no two of the edges are on one symbol
abbrev pub AreOnDistinctSymbols : List (Symbol × ℕ) → Type 0
AreOnDistinctSymbols es = AllPairs (λ (e f : Symbol × ℕ). e.0 ≢ f.0) es

-- entries of a map with their symbols, in an order that tells symbols apart, are such edges
pub distinct_from_order :
    {K X : Type 0} (c : K → K → Ordering) (symbol : K → Symbol) (number : X → ℕ) (es : List (K × X))
    → ((a b : K) → c a b ≡ Less → symbol a ≢ symbol b) → IsStrictlySortedBy c (map (λ (e : K × X). e.0) es)
    → AreOnDistinctSymbols (map (λ (e : K × X). (symbol e.0, number e.1)) es)
distinct_from_order c symbol number [] differ k i j d l m = absurd (omega arith)
distinct_from_order {K} {X} c symbol number (e ∷ es) differ k i j d l m =
    let key : K × X → K = λ e. e.0 in
    let shown : K × X → Symbol × ℕ = λ e. (symbol e.0, number e.1) in
    let n : j < length (e ∷ es) = rw length-map at m in
    let o : i < length (e ∷ es) = omega (arith, l, n) in
    let less = Less-from_sorted c (map key (e ∷ es)) i j e.0 k l (rw length-map n) in
    let keys = rw (get_or-map key (e ∷ es) i e e.0 o, get_or-map key (e ∷ es) j e e.0 n) at less in
    rw (get_or-map shown (e ∷ es) i e d o, get_or-map shown (e ∷ es) j e d n) (differ (get_or (e ∷ es) i e).0 (get_or (e ∷ es) j e).0 keys)

-- where the edges lead
abbrev pub targets : List (Symbol × ℕ) → List ℕ
targets es = map (λ (e : Symbol × ℕ). e.1) es

-- so each is the one that is found on its symbol
pub edge_at_place :
    (es : List (Symbol × ℕ)) → AreOnDistinctSymbols es → (i : ℕ) (d : Symbol × ℕ) → i < length es
    → edge_at es (get_or es i d).0 ≡ Some (get_or es i d).1
edge_at_place [] k i d l = absurd (omega arith)
edge_at_place (e ∷ es) k zero d l = rw (same_symbol_itself e.0) refl
edge_at_place (e ∷ es) k (suc i) d l =
    let differ : (get_or es i d).0 ≢ e.0 = λ z. k 0 (suc i) d (omega arith) l (sym z) in
    rw (same_symbol_differ (get_or es i d).0 e.0 differ) (edge_at_place es (λ i j d l m. k (suc i) (suc j) d (omega arith) (omega arith)) i d (omega arith))

-- the edges are some of those of the state `s`
abbrev pub AreOutOf : Graph → ℕ → List (Symbol × ℕ) → Type 0
AreOutOf h s es = (x : Symbol) (u : ℕ) → edge_at es x ≡ Some u → edge h s x ≡ Some u

module _ (g : Grammar) (h : Graph) (gotos : ContainGotos g h) (reached : AreReached h) where
  module _ (s : ℕ) (es : List (Symbol × ℕ)) (distinct : AreOnDistinctSymbols es) (out : AreOutOf h s es) where
    edge_at_target : (i d : ℕ) → i < length es → edge h s (get_or es i (Rule 0, d)).0 ≡ Some (get_or (targets es) i d)
    edge_at_target i d l =
        out (get_or es i (Rule 0, d)).0 (get_or (targets es) i d)
        (edge_at_place es distinct i (Rule 0, d) l ∙ ap Some (sym (get_or-map (λ (e : Symbol × ℕ). e.1) es i (Rule 0, d) d l)))

    -- edges of one state, of which no two are on one symbol, lead to different states
    pub distinct_targets : IsDistinct eqb (targets es)
    distinct_targets = IsDistinct-from_apart eqb (targets es) (λ i j d l m. ne_eqb (get_or (targets es) i d) (get_or (targets es) j d) (differ i j d l m))
      where
        differ : (i j d : ℕ) → i < j → j < length (targets es) → get_or (targets es) i d ≡ get_or (targets es) j d → ⊥
        differ i j d l m z =
            let n : j < length es = rw length-map at m in
            let one = edge_at_target i d (omega (arith, l, n)) in
            let other = edge_at_target j d n in
            distinct i j (Rule 0, d) l n (reached.one_symbol s s (get_or (targets es) j d) (get_or es i (Rule 0, d)).0 (get_or es j (Rule 0, d)).0 (rw z at one) other)

    target_below : (q : ℕ) → list_any (eqb q) (targets es) ≡ true → q < length h
    target_below q a =
        let (i, v, l, at, is) = Any-from_list_any (eqb q) (targets es) a in
        let k : i < length es = rw length-map at l in
        let same : q ≡ v = eqb-true q v is in
        rw same (gotos.gotos s v (get_or es i (Rule 0, v)).0 (rw at at (edge_at_target i v k))).below

    -- so they are no more than the graph has states
    pub no_more_edges_than_states : length es ≤ length h
    no_more_edges_than_states =
        let few = length-le_from_distinct_below (targets es) (length h) distinct_targets target_below in
        rw length-map at few

  module _ (distinct : All (λ (s : State). AreOnDistinctSymbols s.edges) h) where
    -- the edges of one state are no more than the states
    pub edges_of_each : All (λ (s : State). length s.edges ≤ length h) h
    edges_of_each k d l =
        no_more_edges_than_states k (get_or h k d).edges (distinct k d l)
        (λ x u e. ap (λ o. edge_at (edges_or_none o) x) (slice_get-get_or h k d l) ∙ e)

    -- and all edges no more than the pairs of states
    pub all_edges_are_few : sum_by (λ (s : State). length s.edges) h ≤ length h * length h
    all_edges_are_few = sum_by-le (λ (s : State). length s.edges) (length h) h edges_of_each

    -- which is below 2^64 in a graph of fewer than 2^32 states
    pub all_edges_fit : length h < 2 ^ 32 → sum_by (λ (s : State). length s.edges) h < 2 ^ 64
    all_edges_fit l = let square = mul-lt (length h) (length h) (2 ^ 32) (2 ^ 32) l l in omega (arith, all_edges_are_few, square)
