-- the marked states with their new numbers are the grammar's graph
use Rattle.std.proofs.Common.{◌≡◌, ℕ, ◌<◌, ◌≤◌, Bool, false, List, [], ◌∷◌, ◌++◌, length, Option, None, Some, refl, sym, ap, ◌∙◌, subst, ◌⊎◌, inl, inr, ◌↔◌, IsTrue}
use Rattle.std.specs.Prelude.{slice_index_or, option_map}
use Rattle.std.specs.Option.{IsSome}
use Rattle.std.proofs.lemmas.Bool.{cases_lt}
use Rattle.std.proofs.lemmas.Option.{slice_get_past}
use Rattle.lrspec.specs.grammars.Grammar.{Symbol, Grammar, IsGrammar}
use Rattle.lrspec.specs.grammars.ItemSets as set
use Rattle.lrspec.specs.grammars.ItemSets.{Items, HasItem, LooksIn, Fits, ClosedItem, IsClosure, IsBefore, Moved}
use Rattle.lrspec.specs.merging.Graph.{Graph, closed_of, edge, LeadsToGoto, ContainGotos, IsGraphOf, InventsNoConflict}
use Rattle.lrspec.proofs.grammars.Closures.{has_of_looks, moved_mono}
use Rattle.lrspec.proofs.merging.StatesHoldWhatStands.{value_of_some, graph_of_rooted}
use Rattle.lrspec.proofs.merging.ReachedStates.{item_of_rooted, reached_of_gotos}
use Rattle.lrspec.proofs.tables.ConflictsAreContested.{invents_no_conflict}
use Rattle.lrpager.specs.Collecting as collecting
use Rattle.lrplacing.specs.Construction.{Draft, core_at, edge_from}
use Rattle.lrplacing.specs.Invariant.{Holds, HasGotos, AreClosed}
use Rattle.lrpager.specs.Collecting.{Walks, ReachedAreMarked, new_number, IsCollected}
use Rattle.lrpager.proofs.CollectedStates.{each_state, below_of_marked, closure_of_marked, closes_cores, collected_shared, collected_rooted, lists_lead}

-- an edge by its new number comes from one by its old
renumbered : (f : ℕ → ℕ) (o : Option ℕ) (u : ℕ) → option_map f o ≡ Some u → (v : ℕ) × (o ≡ Some v) × (f v ≡ u)
renumbered f None u e = absurd cc
renumbered f (Some v) u e = (v, refl, cc)

-- an edge leads to one state
same_value : {v u : ℕ} (o : Option ℕ) → o ≡ Some v → o ≡ Some u → v ≡ u
same_value o e f = cc

-- an item that was moved over a symbol stood before it
moved_from :
    {g : Grammar} {x : Symbol} {A : ℕ → ℕ → Type 0} {p d : ℕ} → Moved g x A p d → (q : ℕ) × (e : ℕ) × A q e × IsBefore g q e x
moved_from (set.Moved.moved {p = q} {d = e} i b) = (q, e, i, b)

module _ (g : Grammar) (ss : List Draft) (marks : List Bool) (h : Graph) (holds : Holds g ss) (marked : ReachedAreMarked ss marks) (collected : IsCollected g ss marks h) where
  -- the state is marked
  abbrev IsMarked : ℕ → Type 0
  IsMarked k = IsTrue (slice_index_or marks k false)

  -- the new number of the state
  abbrev new : ℕ → ℕ
  new k = new_number marks k

  -- the closed state of the state has an item before the symbol
  abbrev HasBefore : ℕ → Symbol → Type 0
  HasBefore s x = (p : ℕ) × (d : ℕ) × HasItem (closed_of h s) p d × IsBefore g p d x

  -- an edge of a marked state comes from one that it had, which leads to a marked state
  record OldEdge (k : ℕ) (x : Symbol) (u : ℕ) : Type 0 where
    to : ℕ
    is : edge_from ss k x ≡ Some to
    mark : IsMarked to
    number : new to ≡ u

  old_edge : (k u : ℕ) (x : Symbol) → IsMarked k → edge h (new k) x ≡ Some u → OldEdge k x u
  old_edge k u x m e =
      let (v, is, number) = renumbered new (edge_from ss k x) u (sym (collected.edges k x m) ∙ e) in
      let (w, walk) = marked.reached k m in
      record { to = v; is = is; mark = marked.marked (w ++ x ∷ []) v (collecting.Walks.follow x walk is); number = number }

  -- it leads to a state with an item, which came from an item before its symbol
  before_of_edge : (k : ℕ) (x : Symbol) → IsMarked k → IsSome (edge h (new k) x) → HasBefore (new k) x
  before_of_edge k x m some =
      let (u, e) = value_of_some (edge h (new k) x) some in
      let old = old_edge k u x m e in
      let lead = holds.edges k old.to x old.is in
      let (ws, root, shared) = holds.sharing old.to lead.below in
      let (p, d, i) = item_of_rooted {g = g} {a = core_at ss old.to} (ws, root) in
      let (q, c, j, b) = moved_from ((lead.items p d).0 i) in
      (q, c, ((closure_of_marked g ss marks h holds marked collected k m).items q c).1 j, b)

  -- behind the last state there is neither an edge nor an item
  past_none : (s : ℕ) (x : Symbol) → length h ≤ s → IsSome (edge h s x) → ⊥
  past_none s x l some = let k = rw (slice_get_past h s l) at some in cc

  past_empty : (s : ℕ) (x : Symbol) → length h ≤ s → HasBefore s x → ⊥
  past_empty s x l (p, d, i, b) = let k = rw (slice_get_past h s l) at i in cc

  module _ (closed : AreClosed ss) (gotos : (k : ℕ) → HasGotos g ss k) where
    -- an item before a symbol has an edge on it
    edge_of_before : (k : ℕ) (x : Symbol) → IsMarked k → HasBefore (new k) x → IsSome (edge h (new k) x)
    edge_of_before k x m (p, d, i, b) =
        let closure = closure_of_marked g ss marks h holds marked collected k m in
        let over = gotos k (closed k (below_of_marked g ss marks h holds marked collected k m)) p d x ((closure.items p d).0 i) b in
        rw (collected.edges k x m, over.is) refl

    -- and the edge leads to the goto
    goto_of_edge : (k u : ℕ) (x : Symbol) → IsMarked k → edge h (new k) x ≡ Some u → LeadsToGoto g h (new k) x u
    goto_of_edge k u x m e =
        let old = old_edge k u x m e in
        let lead = holds.edges k old.to x old.is in
        let closure = closure_of_marked g ss marks h holds marked collected k m in
        let core = collected.cores old.to old.mark in
        subst (LeadsToGoto g h (new k) x) old.number (record {
          below = collected.below old.to old.mark;
          items = λ p d. (
            λ i. moved_mono (λ q c. (closure.items q c).1) ((lead.items p d).0 (subst (λ a. HasItem a p d) core i)),
            λ i. subst (λ a. HasItem a p d) (sym core) ((lead.items p d).1 (moved_mono (λ q c. (closure.items q c).0) i)),
          );
          looks = λ p d t i.
              let (q, c, l, b) = moved_from i in
              let there = (closure.items q c).0 (has_of_looks (closed_of h (new k)) q c t l) in
              let over = gotos k (closed k (below_of_marked g ss marks h holds marked collected k m)) q c x there b in
              let same : over.to ≡ old.to = same_value (edge_from ss k x) over.is old.is in
              subst (λ a. LooksIn a p d t) (ap (core_at ss) same ∙ sym core) (over.looks p d t (moved_mono (λ e f. (closure.looks e f t).0) i));
        })

    edges_at : (s : ℕ) (x : Symbol) → ((s < length h) ⊎ (length h ≤ s)) → IsSome (edge h s x) ↔ HasBefore s x
    edges_at s x (inl l) =
        each_state g ss marks h holds marked collected (λ s. IsSome (edge h s x) ↔ HasBefore s x)
        (λ k m. (before_of_edge k x m, edge_of_before k x m)) s l
    edges_at s x (inr l) = (λ e. absurd (past_none s x l e), λ b. absurd (past_empty s x l b))

    goto_at : (s u : ℕ) (x : Symbol) → ((s < length h) ⊎ (length h ≤ s)) → edge h s x ≡ Some u → LeadsToGoto g h s x u
    goto_at s u x (inl l) e =
        each_state g ss marks h holds marked collected (λ s. edge h s x ≡ Some u → LeadsToGoto g h s x u)
        (λ k m. goto_of_edge k u x m) s l e
    goto_at s u x (inr l) e = absurd (past_none s x l (rw e refl))

    -- edges contain gotos
    pub contains_gotos : ContainGotos g h
    contains_gotos = record {
      edges = λ s x. edges_at s x (cases_lt s (length h));
      gotos = λ s u x. goto_at s u x (cases_lt s (length h));
    }

    -- the graph is the grammar's
    graph_of_collected : IsGrammar g → IsGraphOf g h
    graph_of_collected grammar =
        let close = closes_cores g ss marks h holds marked collected in
        let rooted = collected_rooted g ss marks h holds marked collected in
        graph_of_rooted grammar close contains_gotos (reached_of_gotos g h contains_gotos close.start rooted (lists_lead g ss marks h holds marked collected)) rooted

-- where the invariant holds, states contain their gotos and the reached ones are collected, the graph is the grammar's
pub collected_graph :
    {g : Grammar} {ss : List Draft} {marks : List Bool} {h : Graph} → IsGrammar g → Holds g ss → AreClosed ss → ((k : ℕ) → HasGotos g ss k)
    → ReachedAreMarked ss marks → IsCollected g ss marks h → IsGraphOf g h
collected_graph {g} {ss} {marks} {h} grammar holds closed gotos marked collected =
    graph_of_collected g ss marks h holds marked collected closed gotos grammar

-- and merging invents no conflict
pub collected_invents_no_conflict :
    {g : Grammar} {ss : List Draft} {marks : List Bool} {h : Graph} → IsGrammar g → Holds g ss → AreClosed ss → ((k : ℕ) → HasGotos g ss k)
    → ReachedAreMarked ss marks → IsCollected g ss marks h → InventsNoConflict g h
collected_invents_no_conflict {g} {ss} {marks} {h} grammar holds closed gotos marked collected =
    invents_no_conflict g h (collected_graph grammar holds closed gotos marked collected)
    (collected_shared holds marked collected)
