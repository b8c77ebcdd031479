-- which productions are never reduced: those by which no state reduces that is reached
use Rattle.std.proofs.Common.{◌≡◌, ◌≢◌, ℕ, ◌<◌, Bool, true, false, cond, List, [], ◌∷◌, ◌++◌, length, map, filter, Option, None, Some, refl, sym, ap, subst, ◌∙◌, inl, inr, eqb}
use Rattle.std.specs.Prelude.{◌==◌, ◌&&◌, ◌||◌, if◌then◌else◌, not, All, option_to_list, slice_get, is_some}
use Rattle.std.specs.List.{list_any, range_with_len}
use Rattle.std.proofs.lemmas.Bool.{eqb-true, eq-eqb, or_cases}
use Rattle.std.proofs.lemmas.List.Elements.{All-cons, All-nil, All-head, All-tail}
use Rattle.std.proofs.lemmas.List.Sorted.{Contains-permutation, IsPermutation-sym}
use Rattle.lrspec.specs.grammars.Grammar.{Grammar, Token, body_of, token_count}
use Rattle.lrspec.specs.grammars.ItemSets.{Items, item_at}
use Rattle.lrspec.specs.merging.Graph.{Graph, closed_of, edge}
use Rattle.lrspec.specs.tables.Table.{bit_or_none, reductions}
use Rattle.lrspec.proofs.grammars.ListMembers.{Among, among_append, among_front, among_below, among_filter, among_flat_map, among_from_contains, among_from_test, below_from_range, contains_from_among, from_flat_map, test_from_among}
use Rattle.lrrows.specs.StateRows.{complete_items}
use Rattle.lrrows.proofs.ReductionsOf.{complete_listed, listed_under}
use Rattle.lrfindings.specs.declared.cells.Outcome.{Outcome}
use Rattle.lrfindings.specs.CellConflicts.{leaves_shift, leaves_reduction, made_at, made_by, made_in, outcome, reduced_by_states, reduced_in, reductions_left, shift_stands}
use Rattle.lrfindings.specs.ReachedStates.{AreOfReached, AreNeverReduced, IsNeverReduced, IsReachedIn, is_unreduced}
use Rattle.lrfindings.proofs.ReducedPairs.{differ}

-- ---- members of lists

module _ {X : Type 0} (P : X → Type 0) where
  at_each : (xs : List X) (x : X) → All P xs → Among x xs → P x
  at_each [] x all h = absurd h
  at_each (y ∷ ys) x all (inl e) = subst P (sym e) (All-head P y ys all)
  at_each (y ∷ ys) x all (inr h) = at_each ys x (All-tail P y ys all) h

  for_each : (xs : List X) → ((x : X) → Among x xs → P x) → All P xs
  for_each [] each = All-nil P
  for_each (y ∷ ys) each = All-cons P y ys (each y (inl refl)) (for_each ys (λ x h. each x (inr h)))

module _ {X Y : Type 0} (f : X → Y) where
  among_map : (x : X) (xs : List X) → Among x xs → Among (f x) (map f xs)
  among_map x [] h = absurd h
  among_map x (y ∷ ys) (inl e) = inl (ap f e)
  among_map x (y ∷ ys) (inr h) = inr (among_map x ys h)

  from_map : (y : Y) (xs : List X) → Among y (map f xs) → (x : X) × Among x xs × (y ≡ f x)
  from_map y [] h = absurd h
  from_map y (x ∷ xs) (inl e) = (x, inl refl, e)
  from_map y (x ∷ xs) (inr h) = let (z, i, e) = from_map y xs h in (z, inr i, e)

-- what a filter keeps passes its test
passes : (f : ℕ → Bool) (p : ℕ) (xs : List ℕ) → Among p (filter f xs) → f p ≡ true
passes f p [] h = absurd h
passes f p (x ∷ xs) h = go (f x) refl (λ i. passes f p xs i) h
  where
    go : (b : Bool) → f x ≡ b → (Among p (filter f xs) → f p ≡ true) → Among p (cond b (x ∷ filter f xs) (filter f xs)) → f p ≡ true
    go true e later (inl same) = ap f same ∙ e
    go true e later (inr i) = later i
    go false e later i = later i

first_is : (p : ℕ) (ps : List ℕ) → slice_get ps 0 ≡ Some p → Among p ps
first_is p [] e = absurd cc
first_is p (q ∷ ps) e = inl cc

module _ {X : Type 0} where
  pair_from_test : (p : ℕ) (ms : List (X × ℕ)) → list_any (λ m. m.1 == p) ms ≡ true → (m : X × ℕ) × Among m ms × (m.1 ≡ p)
  pair_from_test p [] e = absurd cc
  pair_from_test p (m ∷ ms) e = elim (or_cases (m.1 == p) (list_any (λ m. m.1 == p) ms) e) [
    | inl same ↦ (m, inl refl, eqb-true m.1 p same)
    | inr later ↦ let (n, i, same) = pair_from_test p ms later in (n, inr i, same)
  ]

  test_from_pair : (m : X × ℕ) (ms : List (X × ℕ)) → Among m ms → list_any (λ n. n.1 == m.1) ms ≡ true
  test_from_pair m [] h = absurd h
  test_from_pair m (n ∷ ms) (inl e) = ap (λ b. b || list_any (λ n. n.1 == m.1) ms) (eq-eqb n.1 m.1 (ap (λ (k : X × ℕ). k.1) (sym e)))
  test_from_pair m (n ∷ ms) (inr h) = ap (λ b. (n.1 == m.1) || b) (test_from_pair m ms h) ∙ or_true (n.1 == m.1)
    where
      or_true : (b : Bool) → (b || true) ≡ true
      or_true true = refl
      or_true false = refl

-- ---- what is made in a cell is one of its reductions, and these are complete items

module _ (o : ℕ → Outcome) where
  left_among : (p : ℕ) (ps : List ℕ) → Among p (reductions_left o ps) → Among p ps
  left_among p [] h = absurd h
  left_among p (q ∷ ps) h = go (leaves_shift (o q)) (leaves_reduction (o q)) (λ i. left_among p ps i) h
    where
      go :
          (b c : Bool) → (Among p (reductions_left o ps) → Among p ps)
          → Among p (if c then q ∷ (if b then reductions_left o ps else ps) else (if b then reductions_left o ps else ps)) → Among p (q ∷ ps)
      go true true later (inl e) = inl e
      go true true later (inr i) = inr (later i)
      go true false later i = inr (later i)
      go false true later (inl e) = inl e
      go false true later (inr i) = inr i
      go false false later i = inr i

  made_among : (p : ℕ) (b : Bool) (ps : List ℕ) → made_by o b ps ≡ Some p → Among p ps
  made_among p false ps e = first_is p ps e
  made_among p true ps e = go (shift_stands o ps) e
    where
      go : (b : Bool) → (if b then None else slice_get (reductions_left o ps) 0) ≡ Some p → Among p ps
      go true k = absurd cc
      go false k = left_among p ps (first_is p (reductions_left o ps) k)

under : (cs : List (ℕ × List Bool)) (p : ℕ) (v : List Bool) → listed_under cs p ≡ Some v → Among p (map (λ c. c.0) cs)
under [] p v e = absurd cc
under (c ∷ cs) p v e = go (eqb p c.0) refl (λ k. under cs p v k) e
  where
    go :
        (b : Bool) → eqb p c.0 ≡ b → (listed_under cs p ≡ Some v → Among p (map (λ c. c.0) cs)) → cond b (Some c.1) (listed_under cs p) ≡ Some v
        → Among p (map (λ c. c.0) (c ∷ cs))
    go true q later k = inl (eqb-true p c.0 q)
    go false q later k = inr (later k)

reduction_listed : (g : Grammar) (a : Items) (t p : ℕ) → Among p (reductions g a t) → Among p (map (λ c. c.0) (complete_items g a))
reduction_listed g a t p h =
    let (v, e) = found (eqb p g.start_production) (item_at a p (length (body_of g p))) (passes (λ p. not (p == g.start_production) && bit_or_none (item_at a p (length (body_of g p))) t) p (range_with_len 0 (length g.productions)) h) in
    under (complete_items g a) p v (complete_listed g a p ∙ e)
  where
    found : (b : Bool) (o : Option (List Bool)) → (not b && bit_or_none o t) ≡ true → (v : List Bool) × (cond b None o ≡ Some v)
    found true o e = absurd cc
    found false None e = absurd cc
    found false (Some v) e = (v, refl)

-- ---- the states with the productions by which they reduce

module _ (g : Grammar) (h : Graph) where
  pair_there : (s t p : ℕ) → s < length h → t < token_count g → made_at g h s t ≡ Some p → Among (s, p) (reduced_by_states g h)
  pair_there s t p l k e =
      let made : Among p (made_in g h s) =
      among_flat_map (λ t. option_to_list (made_at g h s t)) p t (range_with_len 0 (token_count g)) (among_below (token_count g) t k) (rw e (inl refl)) in
      let listed : Among p (map (λ c. c.0) (complete_items g (closed_of h s))) =
      reduction_listed g (closed_of h s) t p (made_among (outcome g t) p (is_some (edge h s (Token t))) (reductions g (closed_of h s) t) e) in
      let kept : Among p (reduced_in g h s) =
      among_filter (λ p. list_any (λ q. q == p) (made_in g h s)) p (map (λ c. c.0) (complete_items g (closed_of h s))) listed (test_from_among p (made_in g h s) made) in
      among_flat_map (λ s. map (λ p. (s, p)) (reduced_in g h s)) (s, p) s (range_with_len 0 (length h)) (among_below (length h) s l)
      (among_map (λ p. (s, p)) p (reduced_in g h s) kept)

  from_pair : (m : ℕ × ℕ) → Among m (reduced_by_states g h) → (m.0 < length h) × ((t : ℕ) × (t < token_count g) × (made_at g h m.0 t ≡ Some m.1))
  from_pair m i =
      let (s, there, j) = from_flat_map (λ s. map (λ p. (s, p)) (reduced_in g h s)) m (range_with_len 0 (length h)) i in
      let (p, kept, same) = from_map (λ p. (s, p)) m (reduced_in g h s) j in
      let made = among_from_test p (made_in g h s) (passes (λ p. list_any (λ q. q == p) (made_in g h s)) p (map (λ c. c.0) (complete_items g (closed_of h s))) kept) in
      let (t, within, one) = from_flat_map (λ t. option_to_list (made_at g h s t)) p (range_with_len 0 (token_count g)) made in
      rw same (below_from_range (length h) s there, (t, below_from_range (token_count g) t within, one_is (made_at g h s t) p one))
    where
      one_is : (o : Option ℕ) (p : ℕ) → Among p (option_to_list o) → o ≡ Some p
      one_is None p k = absurd k
      one_is (Some q) p (inl e) = ap Some (sym e)
      one_is (Some q) p (inr k) = absurd k

  module _ (here : List (ℕ × ℕ)) (are : AreOfReached (IsReachedIn g h) (λ m. m.0) (reduced_by_states g h) here) where
    is_there : (s t p : ℕ) → IsReachedIn g h s → s < length h → t < token_count g → made_at g h s t ≡ Some p → Among (s, p) here
    is_there s t p reached l k e =
        let moved = Contains-permutation (reduced_by_states g h) (here ++ are.others) (s, p) are.parted (contains_from_among (s, p) _ (pair_there s t p l k e)) in
        elim (among_append (s, p) here are.others (among_from_contains (s, p) _ moved)) [
          | inl i ↦ i
          | inr i ↦ absurd (at_each (λ m. ¬ (IsReachedIn g h m.0)) are.others (s, p) are.not_reached i reached)
        ]

    from_there : (m : ℕ × ℕ) → Among m here → Among m (reduced_by_states g h)
    from_there m i =
        let back = IsPermutation-sym (reduced_by_states g h) (here ++ are.others) are.parted in
        among_from_contains m _ (Contains-permutation (here ++ are.others) (reduced_by_states g h) m back (contains_from_among m _ (among_front m here are.others i)))

    -- the productions of which the pairs don't tell are never reduced
    pub never_reduced : (ps : List ℕ) → ps ≡ filter (is_unreduced g.start_production here) (range_with_len 0 (length g.productions)) → AreNeverReduced g h ps
    never_reduced ps e = rw e (record {
      only = for_each (IsNeverReduced g h) _ none;
      all = λ p l apart never.
          contains_from_among p _ (among_filter (is_unreduced g.start_production here) p _ (among_below (length g.productions) p l) (untold p apart never));
    })
      where
        no_test : (a b : Bool) → (not a && not b) ≡ true → b ≡ true → ⊥
        no_test true b x y = cc
        no_test false true x y = cc
        no_test false false x y = cc

        none : (p : ℕ) → Among p (filter (is_unreduced g.start_production here) (range_with_len 0 (length g.productions))) → IsNeverReduced g h p
        none p i s t reached l k made =
            no_test (p == g.start_production) (list_any (λ m. m.1 == p) here) (passes (is_unreduced g.start_production here) p (range_with_len 0 (length g.productions)) i) (test_from_pair (s, p) here (is_there s t p reached l k made))

        untold : (p : ℕ) → p ≢ g.start_production → IsNeverReduced g h p → is_unreduced g.start_production here p ≡ true
        untold p apart never = ap (λ b. not b && not (list_any (λ m. m.1 == p) here)) (differ p g.start_production apart) ∙ ap not (go (list_any (λ m. m.1 == p) here) refl)
          where
            go : (b : Bool) → list_any (λ m. m.1 == p) here ≡ b → b ≡ false
            go false told = refl
            go true told =
                let (m, i, same) = pair_from_test p here told in
                let (l, (t, k, made)) = from_pair m (from_there m i) in
                absurd (never m.0 t (at_each (λ m. IsReachedIn g h m.0) here m are.reached i) l k (made ∙ ap Some same))
