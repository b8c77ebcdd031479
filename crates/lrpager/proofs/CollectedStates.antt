-- the states of the collected graph: the marked ones with their cores and closed states, which are shared and, where they
-- have the same items, cross
use Rattle.std.proofs.Common.{◌≡◌, ◌≢◌, ℕ, zero, suc, ◌<◌, ◌≤◌, Bool, false, List, [], length, refl, sym, ap, ◌∙◌, subst, ◌⊎◌, inl, inr, arith, IsTrue}
use Rattle.std.specs.Prelude.{slice_index_or, option_map}
use Rattle.std.proofs.lemmas.Bool.{cases_order}
use Rattle.lrspec.specs.grammars.Grammar.{Symbol, Grammar}
use Rattle.lrspec.specs.grammars.ItemSets.{Fits, IsClosure}
use Rattle.lrspec.specs.grammars.StartState.{IsStartCore}
use Rattle.lrspec.specs.merging.WeakCompatibility.{SameItems, Cross}
use Rattle.lrspec.specs.merging.Graph as graph
use Rattle.lrspec.specs.merging.Graph.{Graph, core_of, closed_of, Leads, AreShared, CoresCross}
use Rattle.lrspec.proofs.merging.StatesHoldWhatStands.{AreRooted, CloseCores}
use Rattle.lrspec.proofs.merging.SameCores.{cross_back}
use Rattle.lrpager.specs.Collecting as collecting
use Rattle.lrplacing.specs.Construction.{Draft, core_at}
use Rattle.lrplacing.specs.Invariant.{HasSharing, Holds}
use Rattle.lrpager.specs.Collecting.{Walks, ReachedAreMarked, new_number, IsCollected}
use Rattle.lrpager.proofs.NewNumbers.{mark_count, marked_below, new_number_start, new_number_below, new_number_taken}
use Rattle.std.proofs.lemmas.List.Sums.{count_by-le-length}

module _ (g : Grammar) (ss : List Draft) (marks : List Bool) (h : Graph) (holds : Holds g ss) (marked : ReachedAreMarked ss marks) (collected : IsCollected g ss marks h) where
  -- the state is marked
  abbrev pub IsMarked : ℕ → Type 0
  IsMarked k = IsTrue (slice_index_or marks k false)

  -- the new number of the state
  abbrev pub new : ℕ → ℕ
  new k = new_number marks k

  -- what holds of the new numbers of marked states holds of each state of the graph
  pub each_state : (P : ℕ → Type 0) → ((k : ℕ) → IsMarked k → P (new k)) → (s : ℕ) → s < length h → P s
  each_state P f s l = let (k, m, e) = collected.only s l in subst P e (f k m)

  pub below_of_marked : (k : ℕ) → IsMarked k → k < length ss
  below_of_marked k m = let l = marked_below marks k m in omega (arith, l, marked.length_is)

  start_marked : IsMarked 0
  start_marked = marked.marked [] 0 collecting.Walks.start

  -- the closed state of a marked state is the closure of its core
  pub closure_of_marked : (k : ℕ) → IsMarked k → IsClosure g (core_at ss k) (closed_of h (new k))
  closure_of_marked k m = collected.closed k m

  start_core : IsStartCore g (core_of h 0)
  start_core =
      subst (λ s. IsStartCore g (core_of h s)) (new_number_start marks)
      (subst (IsStartCore g) (sym (collected.cores 0 start_marked)) holds.start)

  pub closes_cores : CloseCores g h
  closes_cores = record {
    fit_cores = each_state (λ s. Fits g (core_of h s)) (λ k m. subst (Fits g) (sym (collected.cores k m)) (holds.fits k (below_of_marked k m)));
    fit_closed = each_state (λ s. Fits g (closed_of h s)) (λ k m. collected.fits k m);
    closures = each_state (λ s. IsClosure g (core_of h s) (closed_of h s)) (λ k m.
        subst (λ a. IsClosure g a (closed_of h (new k))) (sym (collected.cores k m)) (closure_of_marked k m));
    some = subst (λ s. s < length h) (new_number_start marks) (collected.below 0 start_marked);
    start = start_core;
  }

  shared_states : AreShared g h
  shared_states = each_state (λ s. HasSharing g (core_of h s)) (λ k m.
      subst (HasSharing g) (sym (collected.cores k m)) (holds.sharing k (below_of_marked k m)))

  pub collected_rooted : AreRooted g h
  collected_rooted s l = let (ws, root, shared) = shared_states s l in (ws, root)

  cross_states : CoresCross h
  cross_states s u l i differ =
      let (k, m, e) = collected.only s l in
      let (j, n, f) = collected.only u i in
      subst (λ c. SameItems (core_of h c) (core_of h u) → Cross (core_of h c) (core_of h u)) e
      (subst (λ c. SameItems (core_of h (new k)) (core_of h c) → Cross (core_of h (new k)) (core_of h c)) f
      (cross_at k j m n (λ z. differ (sym e ∙ (ap new z ∙ f)))))
    where
      ordered :
          (k j : ℕ) → IsMarked k → IsMarked j → (k ≡ j) ⊎ ((k < j) ⊎ (j < k)) → k ≢ j → SameItems (core_at ss k) (core_at ss j)
          → Cross (core_at ss k) (core_at ss j)
      ordered k j m n (inl e) differ same = absurd (differ e)
      ordered k j m n (inr (inl l)) differ same = holds.cross k j l (below_of_marked j n) same
      ordered k j m n (inr (inr l)) differ same =
          cross_back (holds.cross j k l (below_of_marked k m) (λ p d. ((same p d).1, (same p d).0)))

      cross_at :
          (k j : ℕ) → IsMarked k → IsMarked j → k ≢ j → SameItems (core_of h (new k)) (core_of h (new j))
          → Cross (core_of h (new k)) (core_of h (new j))
      cross_at k j m n differ =
          subst (λ a. SameItems a (core_of h (new j)) → Cross a (core_of h (new j))) (sym (collected.cores k m))
          (subst (λ b. SameItems (core_at ss k) b → Cross (core_at ss k) b) (sym (collected.cores j n))
          (ordered k j m n (cases_order k j) differ))

  -- each walk to a state leads to its new number
  walk_leads : {w : List Symbol} {k : ℕ} → Walks ss w k → Leads h w (new k)
  walk_leads collecting.Walks.start = subst (Leads h []) (sym (new_number_start marks)) graph.Leads.start
  walk_leads (collecting.Walks.follow {w = w} {k = k} {u = u} x walk e) =
      graph.Leads.follow x (walk_leads walk) (collected.edges k x (marked.marked w k walk) ∙ ap (option_map new) e)

  -- so a list leads to each
  pub lists_lead : (s : ℕ) → s < length h → (w : List Symbol) × Leads h w s
  lists_lead =
      each_state (λ s. (w : List Symbol) × Leads h w s)
      (λ k m. let (w, walk) = marked.reached k m in (w, walk_leads walk))

-- every core is rooted by lists by which it is shared
pub collected_shared :
    {g : Grammar} {ss : List Draft} {marks : List Bool} {h : Graph} → Holds g ss → ReachedAreMarked ss marks → IsCollected g ss marks h
    → AreShared g h
collected_shared {g} {ss} {marks} {h} holds marked collected = shared_states g ss marks h holds marked collected

-- cores with the same items cross
pub collected_crosses :
    {g : Grammar} {ss : List Draft} {marks : List Bool} {h : Graph} → Holds g ss → ReachedAreMarked ss marks → IsCollected g ss marks h
    → CoresCross h
collected_crosses {g} {ss} {marks} {h} holds marked collected = cross_states g ss marks h holds marked collected

-- the graph has as many states as there are marks
pub collected_length : {g : Grammar} {ss : List Draft} {marks : List Bool} {h : Graph} → IsCollected g ss marks h → length h ≡ mark_count marks
collected_length {g} {ss} {marks} {h} collected =
    let more = no_more (length h) refl in
    let less = no_less (mark_count marks) refl in
    omega (arith, more, less)
  where
    no_more : (n : ℕ) → length h ≡ n → n ≤ mark_count marks
    no_more zero e = omega arith
    no_more (suc s) e =
        let (k, m, i) = collected.only s (omega (arith, e)) in
        let below = new_number_below marks k m in
        omega (arith, below, i)

    no_less : (n : ℕ) → mark_count marks ≡ n → n ≤ length h
    no_less zero e = omega arith
    no_less (suc s) e =
        let (k, m, i) = new_number_taken marks s (omega (arith, e)) in
        let below = collected.below k m in
        omega (arith, below, i)

-- so no more than there were
pub collected_no_more :
    {g : Grammar} {ss : List Draft} {marks : List Bool} {h : Graph} → ReachedAreMarked ss marks → IsCollected g ss marks h → length h ≤ length ss
collected_no_more {g} {ss} {marks} {h} marked collected =
    let count = count_by-le-length (λ (b : Bool). b) marks in
    omega (arith, collected_length collected, count, marked.length_is)
