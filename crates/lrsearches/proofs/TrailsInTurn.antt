-- what a search has come to, one visit after another
use Rattle.std.proofs.Common.{◌≡◌, ℕ, zero, suc, ◌+◌, ◌<◌, ◌≤◌, Bool, true, false, List, [], ◌∷◌, ◌++◌, map, length, take, get_or, Option, None, Some, refl, sym, ap, ◌∙◌, append-nil, arith, ◌⊎◌, inl, inr}
use Rattle.std.specs.Option.{option_to_list}
use Rattle.std.specs.Prelude.{Contains, slice_get, not, ◌||◌, option_map, IfSome}
use Rattle.std.proofs.lemmas.Option.{slice_get-map, slice_get-get_or}
use Rattle.std.specs.List.Sorted.{IsPermutation}
use Rattle.std.specs.declared.cmp.Ordering.{Ordering}
use Rattle.std.specs.declared.cmp.Ordering.TheVariants.{Less, Equal, Greater}
use Rattle.std.specs.Ordering.{is_eq, nat_cmp, ordering_then, match_ordering}
use Rattle.std.specs.List.{list_any}
use Rattle.std.specs.BTreeSet.{BTreeSet, contains, insert_key}
use Rattle.std.specs.BTreeMap.{is_at}
use Rattle.std.proofs.lemmas.Bool.Decides.{nat_tests}
use Rattle.std.proofs.lemmas.List.{length-append, length-map, map_more, map-append}
use Rattle.std.proofs.lemmas.List.Sorted.{Contains-permutation, length_permutation, IsPermutation-map, IsPermutation-sym}
use Rattle.std.proofs.lemmas.List.Elements.{Contains-append_left, Contains-push, Contains-push_cases}
use Rattle.lrspec.specs.grammars.Grammar.{Symbol, Grammar, IsGrammar}
use Rattle.lrspec.specs.grammars.CanonicalItems as item
use Rattle.lrspec.specs.merging.Graph as graph
use Rattle.lrspec.specs.merging.Graph.{Graph, IsGraphOf}
use Rattle.lrspec.proofs.grammars.ListMembers.{Among, among_from_contains, contains_from_among}
use Rattle.lrgrammar.specs.declared.idx.PIdx.{PIdx}
use Rattle.lrgrammar.specs.declared.idx.SIdx.{SIdx}
use Rattle.lrsearches.specs.declared.places.Need as stored
use Rattle.lrsearches.specs.declared.places.Need.TheVariants as code
use Rattle.lrsearches.specs.declared.places.Place as kept
use Rattle.lrsearches.specs.StoredPlaces.{need_of, place_of}
use Rattle.lrsearches.specs.PlaceOrder.{need_cmp, place_cmp}
use Rattle.lrsearches.specs.Searches as search
use Rattle.lrsearches.specs.Searches.{Need, Met, Look, Place, Step, Steps, Serves, IsMet, IsMetAtStart, IsGoal, AreLooking, IsCovered, AreCovered, AreStepsOf, IsAnswer}
use Rattle.lrsearches.specs.Trails as trail
use Rattle.lrsearches.specs.Trails.{Visit, AreVisits, HasOrigin, IsVisited, WasSeen, Adds, AddsAll, AreKnown, AreEarlier, IsWalk, IsListOf, turns_of}
use Rattle.std.specs.declared.cmp.Reverse.{Reverse}
use Rattle.lrsearches.specs.declared.search.Turn.{Turn}
use Rattle.lrsearches.proofs.StepsServed.{with_symbol, step_served}
use Rattle.lrsearches.proofs.FinishedSearches.{unserved}

-- a key that a set has by its order
any_key : {X : Type 0} (cmp : X → X → Ordering) (k : X) (ks : List X) → list_any (is_at (cmp k)) ks ≡ true → (q : X) × Among q ks × (is_eq (cmp k q) ≡ true)
any_key cmp k [] e = absurd cc
any_key {X} cmp k (x ∷ xs) e = go (is_eq (cmp k x)) refl e (any_key cmp k xs)
  where
    go :
        (b : Bool) → is_eq (cmp k x) ≡ b → (b || list_any (is_at (cmp k)) xs) ≡ true
        → (list_any (is_at (cmp k)) xs ≡ true → (q : X) × Among q xs × (is_eq (cmp k q) ≡ true)) → (q : X) × Among q (x ∷ xs) × (is_eq (cmp k q) ≡ true)
    go true f g h = (x, inl refl, f)
    go false f g h = let (q, i, m) = h g in (q, inr i, m)

-- a key of a set into which one was put
insert_among : {X : Type 0} (cmp : X → X → Ordering) (k q : X) (ks : List X) → Among q (insert_key cmp ks k) → Among q ks ⊎ (q ≡ k)
insert_among cmp k q [] (inl e) = inr e
insert_among cmp k q [] (inr h) = absurd h
insert_among {X} cmp k q (x ∷ xs) h = go (cmp k x) h (insert_among cmp k q xs)
  where
    go :
        (o : Ordering) → Among q (match_ordering o (k ∷ x ∷ xs) (x ∷ xs) (x ∷ insert_key cmp xs k)) → (Among q (insert_key cmp xs k) → Among q xs ⊎ (q ≡ k))
        → Among q (x ∷ xs) ⊎ (q ≡ k)
    go Less (inl e) f = inr e
    go Less (inr i) f = inl i
    go Equal i f = inl i
    go Greater (inl e) f = inl (inl e)
    go Greater (inr i) f = elim (f i) [ inl j ↦ inl (inr j) | inr j ↦ inr j ]

-- two orderings one after the other are equal where both are
both_equal : (a b : Ordering) → is_eq (ordering_then a b) ≡ true → (is_eq a ≡ true) × (is_eq b ≡ true)
both_equal Less b e = absurd cc
both_equal Equal b e = (refl, e)
both_equal Greater b e = absurd cc

not_false : (b : Bool) → not b ≡ false → b ≡ true
not_false true e = refl
not_false false e = absurd cc

number_equal : (m n : ℕ) → is_eq (nat_cmp m n) ≡ true → m ≡ n
number_equal m n e = grind (arith, nat_tests)

module _ {T : Type 0} (number : T → ℕ) (cmp : T → T → Ordering) (ordered : (x y : T) → cmp x y ≡ nat_cmp (number x) (number y)) where
  same_number : (x y : T) → is_eq (cmp x y) ≡ true → number x ≡ number y
  same_number x y e = number_equal (number x) (number y) (rw (ordered x y) at e)

  -- needs that compare equal are the same
  need_equal : (x y : stored.Need T) → is_eq (need_cmp cmp x y) ≡ true → need_of number x ≡ need_of number y
  need_equal code.Met code.Met e = refl
  need_equal code.Met (code.Look p d) e = absurd cc
  need_equal (code.Look p d) code.Met e = absurd cc
  need_equal (code.Look p d) (code.Look q f) e =
      let b = both_equal (cmp p.0 q.0) (cmp d.0 f.0) e in
      let one = same_number p.0 q.0 b.0 in
      let other = same_number d.0 f.0 b.1 in
      rw (one, other) refl

  module _
      (needs : stored.Need T → stored.Need T → Ordering) (places : kept.Place T → kept.Place T → Ordering)
      (by_need : (x y : stored.Need T) → needs x y ≡ need_cmp cmp x y) (by_place : (a b : kept.Place T) → places a b ≡ place_cmp cmp needs a b)
    where
      -- and so are places
      pub place_equal : (a b : kept.Place T) → is_eq (places a b) ≡ true → place_of number a ≡ place_of number b
      place_equal a b e =
          let k = both_equal (cmp a.state.0 b.state.0) (ordering_then (needs a.first b.first) (needs a.second b.second)) (rw (by_place a b) at e) in
          let l = both_equal (needs a.first b.first) (needs a.second b.second) k.1 in
          let state = same_number a.state.0 b.state.0 k.0 in
          let first = need_equal a.first b.first (rw (by_need a.first b.first) at l.0) in
          let second = need_equal a.second b.second (rw (by_need a.second b.second) at l.1) in
          rw (state, first, second) refl

      -- a place that is not put in was come to
      pub known_place :
          (seen : BTreeSet (kept.Place T)) (vs : List Visit) (a : kept.Place T) (b : Bool) → AreKnown number seen vs → b ≡ not (contains places seen a) → b ≡ false
          → IsVisited vs (place_of number a)
      known_place seen vs a b k e f =
          let (q, c, same) = any_key places a seen.keys (not_false (contains places seen a) (sym e ∙ f)) in
          rw (place_equal a q same) (k q (contains_from_among q seen.keys c))

      -- where a place that was come to is put in, the places of the set were
      pub known_more :
          (old new : BTreeSet (kept.Place T)) (vs us : List Visit) (a : kept.Place T) → new.keys ≡ insert_key places old.keys a
          → ((i : ℕ) (u : Visit) → slice_get vs i ≡ Some u → slice_get us i ≡ Some u) → IsVisited us (place_of number a)
          → AreKnown number old vs → AreKnown number new us
      known_more old new vs us a keys kept here k q c = elim (insert_among places a q old.keys (among_from_contains q (insert_key places old.keys a) (rw keys at c))) [
        | inl m ↦ let (i, v, g, s) = k q (contains_from_among q old.keys m) in (i, v, kept i v g, s)
        | inr e ↦ rw e here
      ]

-- what is at a place of a list is there with more behind it
got_front : (vs ys : List Visit) (i : ℕ) (u : Visit) → slice_get vs i ≡ Some u → slice_get (vs ++ ys) i ≡ Some u
got_front [] ys i u e = absurd cc
got_front (v ∷ vs) ys zero u e = e
got_front (v ∷ vs) ys (suc i) u e = got_front vs ys i u e

got_last : (vs : List Visit) (v : Visit) → slice_get (vs ++ v ∷ []) (length vs) ≡ Some v
got_last [] v = refl
got_last (u ∷ vs) v = got_last vs v

got_cases : (vs : List Visit) (v u : Visit) (i : ℕ) → slice_get (vs ++ v ∷ []) i ≡ Some u → (slice_get vs i ≡ Some u) ⊎ ((u ≡ v) × (i ≡ length vs))
got_cases [] v u zero e = inr (cc, refl)
got_cases [] v u (suc i) e = absurd cc
got_cases (w ∷ vs) v u zero e = inl e
got_cases (w ∷ vs) v u (suc i) e = elim (got_cases vs v u i e) [ inl f ↦ inl f | inr f ↦ inr (f.0, ap suc f.1) ]

-- what is at a place of a list is at one that it has
got_below : (vs : List Visit) (i : ℕ) (u : Visit) → slice_get vs i ≡ Some u → i < length vs
got_below [] i u e = absurd cc
got_below (v ∷ vs) zero u e = omega arith
got_below (v ∷ vs) (suc i) u e = let l = got_below vs i u e in omega (arith, l)

in_tail : {X : Type 0} (x y : X) (xs : List X) → Contains xs y → Contains (x ∷ xs) y
in_tail x y xs h = contains_from_among y (x ∷ xs) (inr (among_from_contains y xs h))

in_head : {X : Type 0} (x : X) (xs : List X) → Contains (x ∷ xs) x
in_head x xs = contains_from_among x (x ∷ xs) (inl refl)

-- a visit more waits for its turn
pub adds_new : (vs : List Visit) (ws zs : List ℕ) (v : Visit) → IsPermutation (length vs ∷ ws) zs → Adds vs ws v (vs ++ v ∷ []) zs
adds_new vs ws zs v p = record {
  kept = λ i u e. got_front vs (v ∷ []) i u e;
  here = (length vs, v, got_last vs v, refl);
  only = λ i u e. elim (got_cases vs v u i e) [
    | inl f ↦ inl f
    | inr f ↦ inr (f.0, omega (arith, f.1), rw f.1 (Contains-permutation (length vs ∷ ws) zs (length vs) p (in_head (length vs) ws)))
  ];
  waits = λ i c. Contains-permutation (length vs ∷ ws) zs i p (in_tail (length vs) i ws c);
  waiting = λ i c. elim (among_from_contains i (length vs ∷ ws) (Contains-permutation zs (length vs ∷ ws) i (IsPermutation-sym (length vs ∷ ws) zs p) c)) [
    | inl e ↦ inr (omega (arith, e, length-append vs (v ∷ [])))
    | inr m ↦ inl (contains_from_among i ws m)
  ];
  grown = let l = length_permutation (length vs ∷ ws) zs p in omega (arith, l, length-append vs (v ∷ []));
  no_less = omega (arith, length-append vs (v ∷ []));
}

-- where the place was come to nothing changes
pub adds_none : (vs : List Visit) (ws : List ℕ) (v : Visit) → IsVisited vs v.place → Adds vs ws v vs ws
adds_none vs ws v k = record { kept = λ i u e. e; here = k; only = λ i u e. inl e; waits = λ i c. c; waiting = λ i c. inl c; grown = refl; no_less = omega arith }

-- visits that were there stay
pub all_kept : {vs us ms : List Visit} {ws zs : List ℕ} → AddsAll vs ws ms us zs → (i : ℕ) (u : Visit) → slice_get vs i ≡ Some u → slice_get us i ≡ Some u
all_kept (trail.AddsAll.none vs ws) i u e = e
all_kept (trail.AddsAll.more a k) i u e = k.kept i u (all_kept a i u e)

pub visited_kept : (vs us : List Visit) (a : Place) → ((i : ℕ) (u : Visit) → slice_get vs i ≡ Some u → slice_get us i ≡ Some u) → IsVisited vs a → IsVisited us a
visited_kept vs us a kept (i, v, e, f) = (i, v, kept i v e, f)

-- and the places of the others are come to
pub all_here : {vs us ms : List Visit} {ws zs : List ℕ} → AddsAll vs ws ms us zs → (v : Visit) → Contains ms v → IsVisited us v.place
all_here (trail.AddsAll.none vs ws) v c = absurd (among_from_contains v [] c)
all_here (trail.AddsAll.more {us = us} {xs = xs} {ms = ms} {v = u} a k) v c = elim (Contains-push_cases ms u v c) [
  | inl i ↦ visited_kept us xs v.place k.kept (all_here a v i)
  | inr e ↦ rw (← e) k.here
]

-- there are as many more that wait as visits
pub all_grown : {vs us ms : List Visit} {ws zs : List ℕ} → AddsAll vs ws ms us zs → (length us + length ws ≡ length vs + length zs) × (length vs ≤ length us)
all_grown (trail.AddsAll.none vs ws) = (refl, omega arith)
all_grown (trail.AddsAll.more a k) = let b = all_grown a in (omega (arith, b.0, k.grown), omega (arith, b.1, k.no_less))

module _ (g : Grammar) (h : Graph) (t : ℕ) (ps : List Place) where
  -- from where a visit may come
  abbrev pub Comes : List Visit → Visit → Option ℕ → Type 0
  Comes vs v None = Contains ps v.place
  Comes vs v (Some j) = (u : Visit) × (slice_get vs j ≡ Some u) × Steps g h t u.place v.symbol v.place

  -- a visit that comes from one of these, at whose place what is needed looks at the token
  pub record IsComing (vs : List Visit) (v : Visit) : Type 0 where
    pub comes : Comes vs v v.from
    pub looking : AreLooking h t v.place
    pub below : v.place.state < length h

  comes_later :
      (vs us : List Visit) (v : Visit) (o : Option ℕ) → ((i : ℕ) (u : Visit) → slice_get vs i ≡ Some u → slice_get us i ≡ Some u) → Comes vs v o → Comes us v o
  comes_later vs us v None kept c = c
  comes_later vs us v (Some j) kept (u, e, s) = (u, kept j u e, s)

  origin_of : (vs us : List Visit) (i : ℕ) (v : Visit) (o : Option ℕ) → length vs ≤ i → ((i : ℕ) (u : Visit) → slice_get vs i ≡ Some u → slice_get us i ≡ Some u)
      → Comes vs v o → HasOrigin g h t ps us i v o
  origin_of vs us i v None l kept c = c
  origin_of vs us i v (Some j) l kept (u, e, s) = let b = got_below vs j u e in (omega (arith, b, l), u, kept j u e, s)

  origin_kept : (vs us : List Visit) (i : ℕ) (v : Visit) (o : Option ℕ) → ((i : ℕ) (u : Visit) → slice_get vs i ≡ Some u → slice_get us i ≡ Some u)
      → HasOrigin g h t ps vs i v o → HasOrigin g h t ps us i v o
  origin_kept vs us i v None kept c = c
  origin_kept vs us i v (Some j) kept (l, u, e, s) = (l, u, kept j u e, s)

  -- nothing is left to be done at the place
  pub record IsDone (vs : List Visit) (a : Place) : Type 0 where
    pub no_goal : IsGoal g t a → ⊥
    pub covered : AreCovered g h t (WasSeen vs) a

  -- a search under way: at each visit that does not wait and is not open nothing is left to be done
  pub record IsSearching (vs : List Visit) (ws : List ℕ) (Open : ℕ → Type 0) : Type 0 where
    pub visits : AreVisits g h t ps vs
    pub done : (i : ℕ) (v : Visit) → slice_get vs i ≡ Some v → Contains ws i ⊎ Open i ⊎ IsDone vs v.place
    pub waits : (i : ℕ) → Contains ws i → i < length vs

  cover_kept :
      (vs us : List Visit) {s : ℕ} {x y : Need} → ((i : ℕ) (u : Visit) → slice_get vs i ≡ Some u → slice_get us i ≡ Some u)
      → IsCovered (WasSeen vs) s x y → IsCovered (WasSeen us) s x y
  cover_kept vs us kept (search.IsCovered.seen k) = search.IsCovered.seen (visited_kept vs us _ kept k)
  cover_kept vs us kept (search.IsCovered.first_met k) = search.IsCovered.first_met (visited_kept vs us _ kept k)
  cover_kept vs us kept (search.IsCovered.second_met k) = search.IsCovered.second_met (visited_kept vs us _ kept k)

  done_kept : (vs us : List Visit) (a : Place) → ((i : ℕ) (u : Visit) → slice_get vs i ≡ Some u → slice_get us i ≡ Some u) → IsDone vs a → IsDone us a
  done_kept vs us a kept k = record {
    no_goal = k.no_goal;
    covered = record {
      firsts = λ z c l. cover_kept vs us kept (k.covered.firsts z c l);
      seconds = λ z i c l. cover_kept vs us kept (k.covered.seconds z i c l);
      backs = λ s v x y e i j l. cover_kept vs us kept (k.covered.backs s v x y e i j l);
    };
  }

  one_more_visit :
      (vs us : List Visit) (ws zs : List ℕ) (v : Visit) (Open : ℕ → Type 0) → Adds vs ws v us zs → IsComing vs v → IsSearching vs ws Open → IsSearching us zs Open
  one_more_visit vs us ws zs v Open a c k = record {
    visits = record {
      origins = λ i u e. elim (a.only i u e) [
        | inl f ↦ origin_kept vs us i u u.from a.kept (k.visits.origins i u f)
        | inr f ↦ rw f.0 (origin_of vs us i v v.from f.1 a.kept c.comes)
      ];
      looking = λ i u e. elim (a.only i u e) [ inl f ↦ k.visits.looking i u f | inr f ↦ rw f.0 c.looking ];
      below = λ i u e. elim (a.only i u e) [ inl f ↦ k.visits.below i u f | inr f ↦ rw f.0 c.below ];
    };
    done = λ i u e. elim (a.only i u e) [
      | inl f ↦ elim (k.done i u f) [
        | inl w ↦ inl (a.waits i w)
        | inr w ↦ elim w [ inl o ↦ inr (inl o) | inr d ↦ inr (inr (done_kept vs us u.place a.kept d)) ]
      ]
      | inr f ↦ inl f.2
    ];
    waits = λ i w. elim (a.waiting i w) [ inl x ↦ let l = k.waits i x in omega (arith, l, a.no_less) | inr l ↦ l ];
  }

  coming_later : (vs us : List Visit) (v : Visit) → ((i : ℕ) (u : Visit) → slice_get vs i ≡ Some u → slice_get us i ≡ Some u) → IsComing vs v → IsComing us v
  coming_later vs us v kept c = record { comes = comes_later vs us v v.from kept c.comes; looking = c.looking; below = c.below }

  -- visits more that come from those that are there
  pub more_visits :
      {vs us ms : List Visit} {ws zs : List ℕ} (Open : ℕ → Type 0) → AddsAll vs ws ms us zs → ((v : Visit) → Contains ms v → IsComing vs v)
      → IsSearching vs ws Open → IsSearching us zs Open
  more_visits Open (trail.AddsAll.none vs ws) c k = k
  more_visits Open (trail.AddsAll.more {vs = vs} {us = us} {xs = xs} {ws = ws} {zs = zs} {ys = ys} {ms = ms} {v = v} a b) c k =
      let before = more_visits Open a (λ u i. c u (Contains-append_left ms (v ∷ []) u i)) k in
      one_more_visit us xs zs ys v Open b (coming_later vs us v (all_kept a) (c v (Contains-push ms v))) before

  -- at the beginning there are no visits
  pub no_visits : IsSearching [] [] (λ i. ⊥)
  no_visits = record {
    visits = record { origins = λ i v e. absurd cc; looking = λ i v e. absurd cc; below = λ i v e. absurd cc };
    done = λ i v e. absurd cc;
    waits = λ i w. absurd (among_from_contains i [] w);
  }

  -- a visit whose turn it is does not wait
  pub take_turn : (vs : List Visit) (ws zs : List ℕ) (n : ℕ) → IsPermutation ws (n ∷ zs) → IsSearching vs ws (λ i. ⊥) → IsSearching vs zs (λ i. i ≡ n)
  take_turn vs ws zs n p k = record {
    visits = k.visits;
    done = λ i v e. elim (k.done i v e) [
      | inl w ↦ elim (among_from_contains i (n ∷ zs) (Contains-permutation ws (n ∷ zs) i p w)) [ inl f ↦ inr (inl f) | inr f ↦ inl (contains_from_among i zs f) ]
      | inr w ↦ elim w [ inl o ↦ absurd o | inr d ↦ inr (inr d) ]
    ];
    waits = λ i w. k.waits i (Contains-permutation (n ∷ zs) ws i (IsPermutation-sym ws (n ∷ zs) p) (in_tail n i zs w));
  }

  -- it is one that is there
  pub turn_below :
      {X : Type 0} (f : X → Visit) (xs : List X) (ws zs : List ℕ) (n : ℕ) → IsPermutation ws (n ∷ zs) → IsSearching (map f xs) ws (λ i. ⊥) → n < length xs
  turn_below f xs ws zs n p k =
      let below = k.waits n (Contains-permutation (n ∷ zs) ws n (IsPermutation-sym ws (n ∷ zs) p) (in_head n zs)) in
      omega (arith, below, length-map xs f)

  -- what was covered by steps is covered by visits of their places
  cover_steps :
      (es : List Step) (us : List Visit) {s : ℕ} {x y : Need} → ((e : Step) → Contains es e → IsVisited us e.1)
      → IsCovered (λ s x y. (o : Option Symbol) × Contains es (o, record { state = s; first = x; second = y })) s x y → IsCovered (WasSeen us) s x y
  cover_steps es us f (search.IsCovered.seen k) = search.IsCovered.seen (f _ k.1)
  cover_steps es us f (search.IsCovered.first_met k) = search.IsCovered.first_met (f _ k.1)
  cover_steps es us f (search.IsCovered.second_met k) = search.IsCovered.second_met (f _ k.1)

  -- and where its steps were made nothing is left to be done
  pub end_turn :
      (us : List Visit) (zs : List ℕ) (n : ℕ) (v : Visit) (es : List Step) → slice_get us n ≡ Some v → (IsGoal g t v.place → ⊥) → AreStepsOf g h t v.place es
      → ((e : Step) → Contains es e → IsVisited us e.1) → IsSearching us zs (λ i. i ≡ n) → IsSearching us zs (λ i. ⊥)
  end_turn us zs n v es e goal steps here k = record {
    visits = k.visits;
    done = λ i u f. elim (k.done i u f) [
      | inl w ↦ inl w
      | inr w ↦ elim w [
        | inl o ↦
            let both : Some u ≡ Some v = sym f ∙ rw o e in
            let same : u ≡ v = cc in
            let done : IsDone us v.place = record {
              no_goal = goal;
              covered = record {
                firsts = λ z c l. cover_steps es us here (steps.covered.firsts z c l);
                seconds = λ z i c l. cover_steps es us here (steps.covered.seconds z i c l);
                backs = λ s v x y e i j l. cover_steps es us here (steps.covered.backs s v x y e i j l);
              };
            } in
            inr (inr (rw same done))
        | inr d ↦ inr (inr d)
      ]
    ];
    waits = k.waits;
  }

  -- a visit of the places at which the search begins
  pub begin_coming : (v : Visit) (a : Place) → v.from ≡ None → v.place ≡ a → Contains ps a → AreLooking h t a → a.state < length h → (vs : List Visit) → IsComing vs v
  begin_coming v a e f c l b vs = record { comes = rw (e, f) c; looking = rw f l; below = rw f b }

  -- the visit to which a step leads
  pub step_coming :
      (vs : List Visit) (n : ℕ) (u v : Visit) (e : Step) → slice_get vs n ≡ Some u → v.from ≡ Some n → v.symbol ≡ e.0 → v.place ≡ e.1
      → Steps g h t u.place e.0 e.1 → AreLooking h t e.1 → e.1.state < length h → IsComing vs v
  step_coming vs n u v e at from symbol place step look below = record {
    comes = rw (from, symbol, place) (u, at, step);
    looking = rw place look;
    below = rw place below;
  }

  module _ (of : IsGraphOf g h) where
    -- the empty list serves a goal
    goal_served : (a : Place) → IsGoal g t a → Serves g h t [] a
    goal_served a k = record { leads = rw k.0 graph.Leads.start; first = met a.first k.1; second = met a.second k.2 }
      where
        met : (x : Need) → IsMetAtStart g t x → IsMet g t [] x
        met Met m = tt
        met (Look p d) m = rw (m.0, m.1, m.2) item.Looks.begin

    -- a step back to a place that is served
    walk_step :
        (w : List Symbol) (x y : Visit) (o : Option Symbol) → AreLooking h t y.place → Steps g h t y.place x.symbol x.place → x.symbol ≡ o
        → Serves g h t w x.place → Serves g h t (with_symbol w o) y.place
    walk_step w x y o look step e served = rw (← e) (step_served g h t of w look step served)

    -- the symbols on the way from a goal serve the places that are come to
    walk_served :
        (vs : List Visit) (n : ℕ) {k : ℕ} {w : List Symbol} (u : Visit) → AreVisits g h t ps vs → slice_get vs n ≡ Some u → IsGoal g t u.place → IsWalk vs n k w
        → (v : Visit) → slice_get vs k ≡ Some v → Serves g h t w v.place
    walk_served vs n u k at goal trail.IsWalk.begin v e = let both : Some v ≡ Some u = sym e ∙ at in let same : v ≡ u = cc in rw same (goal_served u.place goal)
    walk_served vs n u k at goal (trail.IsWalk.stay {i = i} {j = j} {w = w} x walk here from none) v e =
        let (l, y, f, step) = rw from at (k.origins i x here) in
        let both : Some v ≡ Some y = sym e ∙ f in
        let same : v ≡ y = cc in
        rw same (walk_step w x y None (k.looking j y f) step none (walk_served vs n u k at goal walk x here))
    walk_served vs n u k at goal (trail.IsWalk.back {i = i} {j = j} {w = w} x z walk here from some) v e =
        let (l, y, f, step) = rw from at (k.origins i x here) in
        let both : Some v ≡ Some y = sym e ∙ f in
        let same : v ≡ y = cc in
        rw same (walk_step w x y (Some z) (k.looking j y f) step some (walk_served vs n u k at goal walk x here))

    -- so the list of a goal is an answer
    pub list_answers :
        (vs : List Visit) (n : ℕ) (w : List Symbol) (u : Visit) → AreVisits g h t ps vs → slice_get vs n ≡ Some u → IsGoal g t u.place → IsListOf vs n w
        → IsAnswer g h t ps (Some w)
    list_answers vs n w u k at goal (m, v, e, none, walk) =
        (v.place, rw none at (k.origins m v e), walk_served vs n u k at goal walk v e)

    -- and where no visit waits there is none
    pub nothing_answers :
        (vs : List Visit) (ws : List ℕ) → IsGrammar g → ws ≡ [] → ((a : Place) → Contains ps a → IsVisited vs a) → IsSearching vs ws (λ i. ⊥)
        → IsAnswer g h t ps None
    nothing_answers vs ws grammar none begun k a w c s =
        unserved g h t grammar of.hold (WasSeen vs) finished s.leads a.first a.second s.first s.second (begun a c)
      where
        done : (s : ℕ) (x y : Need) → WasSeen vs s x y → IsDone vs (record { state = s; first = x; second = y })
        done s x y (i, v, e, f) = elim (k.done i v e) [
          | inl w ↦ absurd (among_from_contains i [] (rw none at w))
          | inr w ↦ elim w [ inl o ↦ absurd o | inr d ↦ rw (← f) d ]
        ]

        finished : search.IsFinished g h t (WasSeen vs)
        finished = record {
          goals = λ s x y i. (done s x y i).no_goal;
          covered = λ s x y i. (done s x y i).covered;
        }

-- needs compare as their kinds do
pub need_kinds :
    {T : Type 0} (cmp : T → T → Ordering) (order : stored.Need T → stored.Need T → Ordering) → order code.Met code.Met ≡ Equal
    → ((p : PIdx T) (d : SIdx T) → order code.Met (code.Look p d) ≡ Less) → ((p : PIdx T) (d : SIdx T) → order (code.Look p d) code.Met ≡ Greater)
    → ((p q : PIdx T) (d e : SIdx T) → order (code.Look p d) (code.Look q e) ≡ ordering_then (cmp p.0 q.0) (cmp d.0 e.0))
    → (x y : stored.Need T) → order x y ≡ need_cmp cmp x y
need_kinds cmp order mm ml lm ll code.Met code.Met = mm
need_kinds cmp order mm ml lm ll code.Met (code.Look p d) = ml p d
need_kinds cmp order mm ml lm ll (code.Look p d) code.Met = lm p d
need_kinds cmp order mm ml lm ll (code.Look p d) (code.Look q e) = ll p q d e

-- what a stored list of turns says where one is put in
pub turns_pushed :
    (vs : List Visit) (old new : List (Reverse Turn)) (turn : Reverse Turn) (n : ℕ) → n ≡ length vs → turn.0.visit ≡ n → IsPermutation (turn ∷ old) new
    → IsPermutation (length vs ∷ turns_of old) (turns_of new)
turns_pushed vs old new turn n e f p =
    let all : IsPermutation (turn.0.visit ∷ turns_of old) (turns_of new) = IsPermutation-map (λ (r : Reverse Turn). r.0.visit) (turn ∷ old) new p in
    rw (f ∙ e) at all

-- and where one is taken
pub turns_popped : (old new : List (Reverse Turn)) (turn : Reverse Turn) → IsPermutation old (turn ∷ new) → IsPermutation (turns_of old) (turn.0.visit ∷ turns_of new)
turns_popped old new turn p = IsPermutation-map (λ (r : Reverse Turn). r.0.visit) old (turn ∷ new) p

-- no visit more
pub none_added : (vs : List Visit) (ws : List ℕ) → AddsAll vs ws [] vs ws
none_added vs ws = trail.AddsAll.none vs ws

-- a visit more for the next element of a list
pub one_added :
    {X : Type 0} (f : X → Visit) (xs : List X) (i : ℕ) (x : X) {vs us ys : List Visit} {ws zs ks : List ℕ} → i < length xs → x ≡ get_or xs i x
    → AddsAll vs ws (map f (take i xs)) us zs → Adds us zs (f x) ys ks → AddsAll vs ws (map f (take (i + 1) xs)) ys ks
one_added {X} f xs i x l is a b =
    let cut : map f (take (i + 1) xs) ≡ map f (take i xs) ++ f x ∷ [] =
    map_more f xs i x l ∙ ap (λ (y : X). map f (take i xs) ++ f y ∷ []) (sym is) in
    rw cut (trail.AddsAll.more a b)

-- a visit that is read is the one at its place
pub visit_at :
    {X : Type 0} (f : X → Visit) (xs : List X) (i : ℕ) (x : X) → i < length xs → x ≡ get_or xs i x → slice_get (map f xs) i ≡ Some (f x)
visit_at f xs i x l is = slice_get-map f xs i ∙ ap (option_map f) (slice_get-get_or xs i x l ∙ ap Some (sym is))

-- each visit comes from an earlier one
pub earlier_visits : (g : Grammar) (h : Graph) (t : ℕ) (ps : List Place) (vs : List Visit) → AreVisits g h t ps vs → AreEarlier vs
earlier_visits g h t ps vs k i v e = go v.from (k.origins i v e)
  where
    go : (o : Option ℕ) → HasOrigin g h t ps vs i v o → IfSome o (λ j. j < i)
    go None c = tt
    go (Some j) (l, u, f, s) = l

-- a visit comes from an earlier one of the list
pub from_earlier : (vs : List Visit) (i j : ℕ) (v : Visit) → AreEarlier vs → slice_get vs i ≡ Some v → v.from ≡ Some j → (j < i) × (j < length vs)
from_earlier vs i j v earlier e f =
    let l : j < i = rw f at (earlier i v e) in
    let b = got_below vs i v e in
    (l, omega (arith, l, b))

-- the next step of a walk
pub walk_next :
    {X : Type 0} (f : X → Symbol) (vs : List Visit) (n i j : ℕ) (v : Visit) (o : Option X) (xs : List X) → IsWalk vs n i (map f xs) → slice_get vs i ≡ Some v → v.from ≡ Some j
    → v.symbol ≡ option_map f o → IsWalk vs n j (map f (xs ++ option_to_list o))
walk_next f vs n i j v None xs walk here from symbol = rw append-nil (trail.IsWalk.stay v walk here from symbol)
walk_next f vs n i j v (Some x) xs walk here from symbol = rw map-append (trail.IsWalk.back v (f x) walk here from symbol)
