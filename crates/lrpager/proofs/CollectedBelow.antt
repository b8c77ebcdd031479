-- collecting the marked states in their order: what holds of those before some number, and how many edges there are
use Rattle.std.proofs.Common.{◌≡◌, ℕ, zero, suc, ◌+◌, ◌*◌, ◌<◌, ◌≤◌, Bool, true, false, cond, List, [], ◌∷◌, ◌++◌, length, drop, get_or, Option, None, Some, refl, sym, ap, subst, ◌∙◌, ◌⊎◌, inl, inr, arith, length-append}
use Rattle.std.specs.Prelude.{slice_get, option_map, count_by, sum_by}
use Rattle.std.proofs.lemmas.Bool.{cases_lt}
use Rattle.std.proofs.lemmas.Option.{slice_get_within}
use Rattle.std.proofs.lemmas.List.{take_all, length-map, map_push}
use Rattle.std.proofs.lemmas.List.Sums.{sum_by-cons, count_by_more_no, sum_by_push, sum_by-take-le, count_by-le-length}
use Rattle.lrspec.specs.grammars.Grammar.{Symbol, Grammar}
use Rattle.lrspec.specs.grammars.ItemSets.{Items, Fits, IsClosure}
use Rattle.lrspec.specs.merging.Graph.{State, Graph, core_or_none, closed_or_none, edges_or_none, core_of, closed_of, edge, edge_at}
use Rattle.lrpager.specs.Collecting as collecting
use Rattle.lrplacing.specs.Construction.{Draft, draft_core, draft_edges, core_at, edge_from}
use Rattle.lrpager.specs.Collecting.{ReachedAreMarked, new_number, IsCollected, LeadToStates, IsMarked, HaveDistinctTargets, IsRenumbered}
use Rattle.lrpager.specs.Keeping.{kept_state, kept_states, IsKeptState}
use Rattle.lrpager.specs.declared.pager.collecting.Kept.{Kept}
use Rattle.lrpager.proofs.NewNumbers.{marked_below, new_number_after, new_number_increases, new_number_below, new_number_taken}

-- the state `n` of the graph has the core of the state `k`, for its closed state what that closes to, and its edges by new
-- numbers
pub record IsCopy (g : Grammar) (f : ℕ → ℕ) (ss : List Draft) (k : ℕ) (h : Graph) (n : ℕ) : Type 0 where
  pub core : core_of h n ≡ core_at ss k
  pub closed : IsClosure g (core_at ss k) (closed_of h n)
  pub fits : Fits g (closed_of h n)
  pub edges : (x : Symbol) → edge h n x ≡ option_map f (edge_from ss k x)

-- the marked ones of the first `k` states were collected
pub record AreCollectedBelow (g : Grammar) (f : ℕ → ℕ) (ss : List Draft) (marks : List Bool) (k : ℕ) (h : Graph) : Type 0 where
  pub length_is : length h ≡ new_number marks k
  pub each : (j : ℕ) → j < k → IsMarked marks j → IsCopy g f ss j h (new_number marks j)

-- the first of what is left of a list
pub first_left :
    {X : Type 0} (xs : List X) (k : ℕ) (x : X) (rest : List X) → drop k xs ≡ x ∷ rest → (slice_get xs k ≡ Some x) × (rest ≡ drop (k + 1) xs)
first_left [] zero x rest e = absurd (cc)
first_left [] (suc k) x rest e = absurd (cc)
first_left (y ∷ xs) zero x rest e = (cc, cc)
first_left (y ∷ xs) (suc k) x rest e =
    let next : suc k + 1 ≡ suc (k + 1) = omega arith in
    let (at, is) = first_left xs k x rest e in
    (at, is ∙ sym (ap (λ n. drop n (y ∷ xs)) next))

get_pushed : {X : Type 0} (xs : List X) (y : X) (k : ℕ) → k < length xs → slice_get (xs ++ y ∷ []) k ≡ slice_get xs k
get_pushed [] y k l = absurd (omega arith)
get_pushed (x ∷ xs) y zero l = refl
get_pushed (x ∷ xs) y (suc k) l = get_pushed xs y k (omega arith)

get_last : {X : Type 0} (xs : List X) (y : X) → slice_get (xs ++ y ∷ []) (length xs) ≡ Some y
get_last [] y = refl
get_last (x ∷ xs) y = get_last xs y

-- a state that comes behind leaves a copy
copy_kept :
    (g : Grammar) (f : ℕ → ℕ) (ss : List Draft) (j : ℕ) (h : Graph) (n : ℕ) (s : State) → n < length h → IsCopy g f ss j h n
    → IsCopy g f ss j (h ++ s ∷ []) n
copy_kept g f ss j h n s l c = record {
  core = ap core_or_none same ∙ c.core;
  closed = subst (IsClosure g (core_at ss j)) (sym (ap closed_or_none same)) c.closed;
  fits = subst (Fits g) (sym (ap closed_or_none same)) c.fits;
  edges = λ x. ap (λ o. edge_at (edges_or_none o) x) same ∙ c.edges x;
}
  where
    same : slice_get (h ++ s ∷ []) n ≡ slice_get h n
    same = get_pushed h s n l

-- the state that comes last is a copy
copy_last :
    (g : Grammar) (f : ℕ → ℕ) (ss : List Draft) (k : ℕ) (h : Graph) (d : Draft) (s : State) → slice_get ss k ≡ Some d → IsRenumbered g f d s
    → IsCopy g f ss k (h ++ s ∷ []) (length h)
copy_last g f ss k h d s at m = record {
  core = ap core_or_none last ∙ (m.core ∙ sym (ap draft_core at));
  closed = subst (IsClosure g (core_at ss k)) (sym (ap closed_or_none last)) (subst (λ a. IsClosure g a s.closed) (sym (ap draft_core at)) m.closed);
  fits = subst (Fits g) (sym (ap closed_or_none last)) m.fits;
  edges = λ x. ap (λ o. edge_at (edges_or_none o) x) last ∙ (m.edges x ∙ sym (ap (λ o. option_map f (edge_at (draft_edges o) x)) at));
}
  where
    last : slice_get (h ++ s ∷ []) (length h) ≡ Some s
    last = get_last h s

before_or_this : (j k : ℕ) → j < k + 1 → (j < k) ⊎ (j ≡ k)
before_or_this j k l = elim (cases_lt j k) [ inl b ↦ inl b | inr a ↦ inr (omega (arith, l, a)) ]

module _ (g : Grammar) (f : ℕ → ℕ) (ss : List Draft) (marks : List Bool) where
  -- a state that isn't marked is left
  pub collected_not :
      (k : ℕ) (h : Graph) → k < length marks → get_or marks k false ≡ false → AreCollectedBelow g f ss marks k h
      → AreCollectedBelow g f ss marks (k + 1) h
  collected_not k h l not c = record {
    length_is = c.length_is ∙ sym (count_by_more_no (λ (b : Bool). b) marks k false l not);
    each = λ j b m. elim (before_or_this j k b) [
      | inl i ↦ c.each j i m
      | inr e ↦ let n : IsMarked marks k = rw e at m in let z : true ≡ false = sym n ∙ not in cc
    ];
  }

  -- a marked state is collected
  pub collected_more :
      (k : ℕ) (h : Graph) (d : Draft) (s : State) → IsMarked marks k → slice_get ss k ≡ Some d → IsRenumbered g f d s
      → AreCollectedBelow g f ss marks k h → AreCollectedBelow g f ss marks (k + 1) (h ++ s ∷ [])
  collected_more k h d s m at renumbered c = record {
    length_is = omega (arith, length-append h (s ∷ []), c.length_is, new_number_after marks k m);
    each = λ j b n. elim (before_or_this j k b) [
      | inl i ↦ copy_kept g f ss j h (new_number marks j) s (omega (arith, new_number_increases marks j k n i, c.length_is)) (c.each j i n)
      | inr e ↦ rw (e, ← c.length_is) (copy_last g f ss k h d s at renumbered)
    ];
  }

  -- so the graph is collected where all states were gone through, and `f` gives the new numbers
  module _ (k : ℕ) (h : Graph) (c : AreCollectedBelow g f ss marks k h) (all : k ≡ length ss) (same : length marks ≡ length ss) where
    pub collected_count : length h ≡ count_by (λ (b : Bool). b) marks
    collected_count = c.length_is ∙ ap (count_by (λ (b : Bool). b)) (take_all k marks (omega (arith, all, same)))

    copied : (j : ℕ) → IsMarked marks j → IsCopy g f ss j h (new_number marks j)
    copied j m = let l = marked_below marks j m in c.each j (omega (arith, l, all, same)) m

    pub collected_all :
        LeadToStates ss → ((u : ℕ) → u < length ss → f u ≡ new_number marks u) → IsCollected g ss marks h
    collected_all below numbers = record {
      below = λ j m. let l = new_number_below marks j m in omega (arith, l, collected_count);
      cores = λ j m. (copied j m).core;
      closed = λ j m. (copied j m).closed;
      fits = λ j m. (copied j m).fits;
      edges = λ j x m. (copied j m).edges x ∙ agree j x (edge_from ss j x) refl;
      only = λ s l. new_number_taken marks s (omega (arith, l, collected_count));
    }
      where
        agree : (j : ℕ) (x : Symbol) (o : Option ℕ) → edge_from ss j x ≡ o → option_map f (edge_from ss j x) ≡ option_map (new_number marks) (edge_from ss j x)
        agree j x None e = rw e refl
        agree j x (Some u) e = rw e (ap Some (numbers u (below j u x e)))

-- how many edges the states have
abbrev pub edge_count : Graph → ℕ
edge_count h = sum_by (λ (s : State). length s.edges) h

-- the marked ones of the first `k` states were collected, and their edges counted, which are few
pub record AreCollecting (g : Grammar) (f : ℕ → ℕ) (ss : List Draft) (marks : List Bool) (k : ℕ) (h : Graph) (edges : ℕ) : Type 0 where
  pub collected : AreCollectedBelow g f ss marks k h
  pub counted : edges ≡ edge_count h
  pub few : edges ≤ k * length ss

-- a state that isn't marked has no part in it
pub collecting_not :
    (g : Grammar) (f : ℕ → ℕ) (ss : List Draft) (marks : List Bool) (k : ℕ) (h : Graph) (edges : ℕ) → k < length marks → get_or marks k false ≡ false
    → AreCollecting g f ss marks k h edges → AreCollecting g f ss marks (k + 1) h edges
collecting_not g f ss marks k h edges l not c =
    record { collected = collected_not g f ss marks k h l not c.collected; counted = c.counted; few = omega (arith, c.few) }

-- a marked state adds its edges
pub collecting_more :
    (g : Grammar) (f : ℕ → ℕ) (ss : List Draft) (marks : List Bool) (k : ℕ) (h new : Graph) (edges more : ℕ) (d : Draft) (s : State) → IsMarked marks k
    → slice_get ss k ≡ Some d → IsRenumbered g f d s → more ≡ length s.edges → more ≤ length ss → new ≡ h ++ s ∷ []
    → AreCollecting g f ss marks k h edges → AreCollecting g f ss marks (k + 1) new (edges + more)
collecting_more g f ss marks k h new edges more d s m at renumbered n few is c = rw is (record {
  collected = collected_more g f ss marks k h d s m at renumbered c.collected;
  counted = omega (arith, sum_by_push (λ (t : State). length t.edges) h s, c.counted, n);
  few = omega (arith, c.few, few);
})

-- ---- what is kept of the collected states

-- the states are what is kept of those that were collected so far
pub record AreKeptSoFar (kept : Kept) (g : Grammar) (f : ℕ → ℕ) (ss : List Draft) (marks : List Bool) (k : ℕ) (states : Graph) (edges : ℕ) : Type 0 where
  pub whole : Graph
  pub collecting : AreCollecting g f ss marks k whole edges
  pub kept_is : states ≡ kept_states kept g whole

pub kept_not :
    (kept : Kept) (g : Grammar) (f : ℕ → ℕ) (ss : List Draft) (marks : List Bool) (k : ℕ) (states : Graph) (edges : ℕ) → k < length marks
    → get_or marks k false ≡ false → AreKeptSoFar kept g f ss marks k states edges → AreKeptSoFar kept g f ss marks (k + 1) states edges
kept_not kept g f ss marks k states edges l not c =
    record { whole = c.whole; collecting = collecting_not g f ss marks k c.whole edges l not c.collecting; kept_is = c.kept_is }

pub kept_more :
    (kept : Kept) (g : Grammar) (f : ℕ → ℕ) (ss : List Draft) (marks : List Bool) (k : ℕ) (states new : Graph) (edges more : ℕ) (d : Draft) (s : State)
    → IsMarked marks k → slice_get ss k ≡ Some d → IsKeptState kept g f d s → more ≡ length s.edges → more ≤ length ss → new ≡ states ++ s ∷ []
    → AreKeptSoFar kept g f ss marks k states edges → AreKeptSoFar kept g f ss marks (k + 1) new (edges + more)
kept_more kept g f ss marks k states new edges more d s m at n count few is c = record {
  whole = c.whole ++ n.whole ∷ [];
  collecting =
      collecting_more g f ss marks k c.whole (c.whole ++ n.whole ∷ []) edges more d n.whole m at n.renumbered
      (count ∙ ap (λ (t : State). length t.edges) n.kept_is) few refl c.collecting;
  kept_is = is ∙ (rw (c.kept_is, n.kept_is) (sym (map_push (kept_state kept g) c.whole n.whole)));
}

kept_edge_count : (kept : Kept) (g : Grammar) (h : Graph) → edge_count (kept_states kept g h) ≡ edge_count h
kept_edge_count kept g [] = refl
kept_edge_count kept g (s ∷ h) =
    sum_by-cons (λ (t : State). length t.edges) (kept_state kept g s) (kept_states kept g h)
    ∙ (ap (λ n. length s.edges + n) (kept_edge_count kept g h) ∙ sym (sum_by-cons (λ (t : State). length t.edges) s h))

module _
    (kept : Kept) (g : Grammar) (f : ℕ → ℕ) (ss : List Draft) (marks : List Bool) (k : ℕ) (states : Graph) (edges : ℕ)
    (c : AreKeptSoFar kept g f ss marks k states edges) where
  -- their edges are counted
  pub kept_counted : edges ≡ edge_count states
  kept_counted = c.collecting.counted ∙ sym (ap edge_count c.kept_is ∙ kept_edge_count kept g c.whole)

  -- there are as many as marks, where all states were gone through
  pub kept_count : k ≡ length ss → length marks ≡ length ss → length states ≡ count_by (λ (b : Bool). b) marks
  kept_count all same =
      ap length c.kept_is ∙ (length-map c.whole (kept_state kept g) ∙ collected_count g f ss marks k c.whole c.collecting.collected all same)

-- the edges of a state lead to different states, which are below `n`
pub apart_at :
    (ss : List Draft) (n k : ℕ) (d : Draft) → slice_get ss k ≡ Some d → n ≡ length ss → LeadToStates ss
    → ((k u : ℕ) (x y : Symbol) → edge_from ss k x ≡ Some u → edge_from ss k y ≡ Some u → x ≡ y) → HaveDistinctTargets n d.edges
apart_at ss n k d at same below one = record {
  below = λ x u e. let l = below k u x (here x u e) in omega (arith, l, same);
  apart = λ x y u e i. one k u x y (here x u e) (here y u i);
}
  where
    here : (x : Symbol) (u : ℕ) → edge_at d.edges x ≡ Some u → edge_from ss k x ≡ Some u
    here x u e = rw at e

-- what holds of each core holds of that of a state that is looked at
pub of_each_core :
    (P : Items → Type 0) (ss : List Draft) (k : ℕ) (d : Draft) → slice_get ss k ≡ Some d → ((j : ℕ) → j < length ss → P (core_at ss j)) → P d.core
of_each_core P ss k d at all = subst P (ap draft_core at) (all k (slice_get_within ss k d at))

-- new numbers are no more than there are states
pub number_most : (marks : List Bool) (k : ℕ) → new_number marks k ≤ length marks
number_most marks k =
    let part = sum_by-take-le (λ (b : Bool). cond b 1 0) marks k in
    let all = count_by-le-length (λ (b : Bool). b) marks in
    omega (arith, part, all)

-- the start state is collected
pub some_collected : {g : Grammar} {ss : List Draft} {marks : List Bool} {h : Graph} → ReachedAreMarked ss marks → IsCollected g ss marks h → 0 < length h
some_collected marked collected =
    let start = collected.below 0 (marked.marked [] 0 collecting.Walks.start) in
    omega (arith, start)

-- and kept
pub some_kept :
    (kept : Kept) {g : Grammar} {ss : List Draft} {marks : List Bool} {states h : Graph} → ReachedAreMarked ss marks → IsCollected g ss marks h
    → states ≡ kept_states kept g h → 0 < length states
some_kept kept {g} {ss} {marks} {states} {h} marked collected is =
    omega (arith, some_collected marked collected, ap length is, length-map h (kept_state kept g))
