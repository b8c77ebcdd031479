-- a test whether a graph is the grammar's, where its cores are rooted and lists lead to its states
use Rattle.std.proofs.Common.{◌≡◌, ℕ, zero, suc, ◌<◌, ◌≤◌, Bool, true, false, cond, ◌&&◌, List, [], ◌∷◌, length, Option, Some, refl, sym, subst, ◌⊎◌, inl, inr, ◌↔◌, arith}
use Rattle.std.specs.Prelude.{nat_lt, slice_get}
use Rattle.std.specs.Option.{is_some, IsSome}
use Rattle.std.specs.List.{list_all}
use Rattle.std.proofs.lemmas.Bool.{and_parts, cases_lt, ltb-true}
use Rattle.std.proofs.lemmas.Option.{slice_get_past}
use Rattle.lrspec.specs.grammars.Grammar.{Symbol, Grammar, IsGrammar, rest}
use Rattle.lrspec.specs.grammars.ItemSets as set
use Rattle.lrspec.specs.grammars.ItemSets.{Items, HasItem, LooksIn, Fits, IsClosure, IsBefore, Moved}
use Rattle.lrspec.specs.grammars.StartState.{IsStartCore}
use Rattle.lrspec.proofs.grammars.ListMembers.{Among}
use Rattle.lrspec.specs.merging.Graph.{same_symbol, State, Graph, edge_at, core_or_none, closed_or_none, edges_or_none, core_of, closed_of, edge, Leads, ContainGotos, IsGraphOf}
use Rattle.lrspec.proofs.merging.SameSymbols.{symbol_from_same}
use Rattle.lrspec.proofs.merging.StatesHoldWhatStands.{value_of_some, AreRooted, graph_of_rooted}
use Rattle.lrspec.proofs.merging.ReachedStates.{item_of_rooted, reached_of_gotos}
use Rattle.lrspec.proofs.examples.ItemEntries.{all_among}
use Rattle.lrspec.proofs.examples.ItemSetEntries.{item_listed}
use Rattle.lrspec.proofs.examples.DerivedByComputing.{is_closure, closure_from_test}
use Rattle.lrspec.proofs.examples.GotosByComputing.{fits, fits_from_test, has_goto, goto_items, goto_looks}

edge_found_by :
    (e : Symbol × ℕ) (es : List (Symbol × ℕ)) (x : Symbol) (u : ℕ) (b : Bool) → same_symbol x e.0 ≡ b
    → cond b (Some e.1) (edge_at es x) ≡ Some u → ((x, u) ≡ e) ⊎ (edge_at es x ≡ Some u)
edge_found_by e es x u false k i = inr i
edge_found_by (z, v) es x u true k i =
    let one : x ≡ z = symbol_from_same x z k in
    let two : u ≡ v = cc in
    inl (rw (one, two) refl)

-- the edge that is found on a symbol is listed
pub edge_found : (es : List (Symbol × ℕ)) (x : Symbol) (u : ℕ) → edge_at es x ≡ Some u → Among (x, u) es
edge_found [] x u i = absurd cc
edge_found (e ∷ es) x u i =
    elim (edge_found_by e es x u (same_symbol x e.0) refl i) [ inl k ↦ inl k | inr k ↦ inr (edge_found es x u k) ]

-- an item that was moved over a symbol stood before it
moved_from :
    {g : Grammar} {x : Symbol} {A : ℕ → ℕ → Type 0} {p d : ℕ} → Moved g x A p d → (q : ℕ) × (e : ℕ) × A q e × IsBefore g q e x
moved_from (set.Moved.moved {p = q} {d = e} i b) = (q, e, i, b)

state_listed : (h : Graph) (s : ℕ) → s < length h → (a : State) × (slice_get h s ≡ Some a) × Among a h
state_listed [] s l = absurd (omega arith)
state_listed (a ∷ h) zero l = (a, refl, inl refl)
state_listed (a ∷ h) (suc s) l = let (b, e, i) = state_listed h s (omega arith) in (b, e, inr i)

module _ (g : Grammar) (h : Graph) where
  -- whether there is an edge on the first symbol of the list, if it has one
  abbrev pub has_edge : List (Symbol × ℕ) → List Symbol → Bool
  has_edge es [] = true
  has_edge es (x ∷ y) = is_some (edge_at es x)

  -- whether the edge leads from the closed state to its goto
  abbrev pub leads_on : Items → Symbol × ℕ → Bool
  leads_on c e = nat_lt e.1 (length h) && has_goto g c e.0 (core_of h e.1)

  -- whether the item sets of the state fit, the one is the closure of the other, and edges are as they have to be
  abbrev pub test_state : State → Bool
  test_state a =
      (fits g a.core && fits g a.closed)
      && (is_closure g a.core a.closed && (list_all (λ e. has_edge a.edges (rest g e.0.0 e.0.1)) a.closed && list_all (leads_on a.closed) a.edges))

  abbrev pub test_states : Bool
  test_states = list_all test_state h

  record Passed (a : State) : Type 0 where
    fits_core : fits g a.core ≡ true
    fits_closed : fits g a.closed ≡ true
    closes : is_closure g a.core a.closed ≡ true
    edges : list_all (λ e. has_edge a.edges (rest g e.0.0 e.0.1)) a.closed ≡ true
    leads : list_all (leads_on a.closed) a.edges ≡ true

  passed : (a : State) → test_state a ≡ true → Passed a
  passed a test =
      let edges = list_all (λ e. has_edge a.edges (rest g e.0.0 e.0.1)) a.closed in
      let leads = list_all (leads_on a.closed) a.edges in
      let (i, j) = and_parts (fits g a.core && fits g a.closed) (is_closure g a.core a.closed && (edges && leads)) test in
      let (k, l) = and_parts (fits g a.core) (fits g a.closed) i in
      let (m, n) = and_parts (is_closure g a.core a.closed) (edges && leads) j in
      let (o, p) = and_parts edges leads n in
      record { fits_core = k; fits_closed = l; closes = m; edges = o; leads = p }

  -- an edge of a state leads to its goto
  record LeadsOn (c : Items) (x : Symbol) (u : ℕ) : Type 0 where
    below : u < length h
    items : (p d : ℕ) → HasItem (core_of h u) p d ↔ Moved g x (HasItem c) p d
    looks : (p d t : ℕ) → Moved g x (λ q e. LooksIn c q e t) p d → LooksIn (core_of h u) p d t

  leads_of_edge : (a : State) → Passed a → (x : Symbol) (u : ℕ) → edge_at a.edges x ≡ Some u → LeadsOn a.closed x u
  leads_of_edge a k x u e =
      let one = all_among (leads_on a.closed) (x, u) a.edges k.leads (edge_found a.edges x u e) in
      let (i, j) = and_parts (nat_lt u (length h)) (has_goto g a.closed x (core_of h u)) one in
      record { below = ltb-true u (length h) i; items = goto_items g a.closed x (core_of h u) j; looks = goto_looks g a.closed x (core_of h u) j }

  edge_of_item : (a : State) → Passed a → (x : Symbol) (p d : ℕ) → HasItem a.closed p d → IsBefore g p d x → IsSome (edge_at a.edges x)
  edge_of_item a k x p d i (y, b) =
      let (v, j) = item_listed a.closed p d i in
      let one = all_among (λ e. has_edge a.edges (rest g e.0.0 e.0.1)) ((p, d), v) a.closed k.edges j in
      rw b at one

  module _ (test : test_states ≡ true) where
    -- what holds of each state that passes holds of each place in the graph
    each_place : (P : Option State → Type 0) → ((a : State) → Passed a → P (Some a)) → (s : ℕ) → s < length h → P (slice_get h s)
    each_place P f s l =
        let (a, e, i) = state_listed h s l in subst P (sym e) (f a (passed a (all_among test_state a h test i)))

    -- closed states are the closures of their cores
    pub states_close : (s : ℕ) → s < length h → IsClosure g (core_of h s) (closed_of h s)
    states_close = each_place (λ o. IsClosure g (core_or_none o) (closed_or_none o)) (λ a k. closure_from_test g a.core a.closed k.closes)

    leads_at : (x : Symbol) (u s : ℕ) → ((s < length h) ⊎ (length h ≤ s)) → edge h s x ≡ Some u → LeadsOn (closed_of h s) x u
    leads_at x u s (inl l) e =
        each_place (λ o. edge_at (edges_or_none o) x ≡ Some u → LeadsOn (closed_or_none o) x u) (λ a k. leads_of_edge a k x u) s l e
    leads_at x u s (inr l) e = let k = rw (slice_get_past h s l) at e in absurd cc

    edge_at_place :
        (x : Symbol) (p d s : ℕ) → ((s < length h) ⊎ (length h ≤ s)) → HasItem (closed_of h s) p d → IsBefore g p d x → IsSome (edge h s x)
    edge_at_place x p d s (inl l) i b =
        each_place (λ o. HasItem (closed_or_none o) p d → IsBefore g p d x → IsSome (edge_at (edges_or_none o) x))
        (λ a k. edge_of_item a k x p d) s l i b
    edge_at_place x p d s (inr l) i b = let k = rw (slice_get_past h s l) at i in absurd cc

    module _ (rooted : AreRooted g h) where
      before_of_edge : (s : ℕ) (x : Symbol) → IsSome (edge h s x) → (p : ℕ) × (d : ℕ) × HasItem (closed_of h s) p d × IsBefore g p d x
      before_of_edge s x some =
          let (u, e) = value_of_some (edge h s x) some in
          let lead = leads_at x u s (cases_lt s (length h)) e in
          let (p, d, i) = item_of_rooted (rooted u lead.below) in
          moved_from ((lead.items p d).0 i)

      contain_gotos : ContainGotos g h
      contain_gotos = record {
        edges = λ s x. (before_of_edge s x, λ i. edge_at_place x i.0 i.1 s (cases_lt s (length h)) i.2 i.3);
        gotos = λ s u x e.
            let lead = leads_at x u s (cases_lt s (length h)) e in
            record { below = lead.below; items = lead.items; looks = lead.looks };
      }

      -- so the graph is the grammar's
      pub graph_from_test :
          IsGrammar g → 0 < length h → IsStartCore g (core_of h 0) → ((s : ℕ) → s < length h → (w : List Symbol) × Leads h w s) → IsGraphOf g h
      graph_from_test grammar some start lists =
          graph_of_rooted grammar
          (record {
            fit_cores = each_place (λ o. Fits g (core_or_none o)) (λ a k. fits_from_test g a.core k.fits_core);
            fit_closed = each_place (λ o. Fits g (closed_or_none o)) (λ a k. fits_from_test g a.closed k.fits_closed);
            closures = states_close;
            some = some;
            start = start;
          })
          contain_gotos (reached_of_gotos g h contain_gotos start rooted lists) rooted
