-- the graph of the smallest grammar, which is shared
use Rattle.std.proofs.Common.{◌≡◌, ℕ, zero, suc, ◌<◌, Bool, true, false, cond, List, [], ◌∷◌, length, None, Some, refl, sym, ap, ◌∙◌, subst, inl, inr, arith}
use Rattle.std.specs.Prelude.{◌==◌}
use Rattle.std.specs.Option.{IsSome}
use Rattle.std.proofs.lemmas.Bool.{eqb-true}
use Rattle.lrspec.specs.grammars.Grammar.{Symbol, Rule, Token, rest}
use Rattle.lrspec.specs.grammars.ItemSets as set
use Rattle.lrspec.specs.grammars.ItemSets.{Items, HasItem, LooksIn, FitsAt, Fits, IsClosure, IsBefore, Moved, IsGoto}
use Rattle.lrspec.specs.merging.Graph as graph
use Rattle.lrspec.specs.merging.Graph.{State, Graph, core_of, closed_of, edge, Leads, LeadsToGoto, ContainGotos, AreReached, IsGraphOf, AreShared}
use Rattle.lrspec.specs.examples.ExampleGrammars.{smallest}
use Rattle.lrspec.proofs.examples.ItemSetEntries.{item_found}
use Rattle.lrspec.proofs.merging.SharingKept.{start_shared, goto_shared}
use Rattle.lrspec.proofs.merging.StatesHoldWhatStands.{value_of_some, graph_of_rooted}
use Rattle.lrspec.proofs.examples.SmallestItemSets.{smallest_grammar, one, start_closed, one_items, one_looks, one_start, IsAtStart, at_start, look_at_start, behind_start, nothing_behind, start_closes, end_closes}
use Rattle.lrspec.proofs.merging.RootedCores.{followed}

-- the graph of the smallest grammar: the start state, and the state to which its edge on S leads
abbrev pub smallest_graph : Graph
smallest_graph =
    record { core = one 1 0; closed = start_closed; edges = (Rule 1, 1) ∷ [] }
    ∷ record { core = one 1 1; closed = one 1 1; edges = [] }
    ∷ []

-- ---- the edge on S leads to the goto

moved_item : {p d : ℕ} {x : Symbol} {y : List Symbol} → IsAtStart p d → rest smallest p d ≡ x ∷ y → (p ≡ 1) × (suc d ≡ 1)
moved_item IsAtStart.start e = (refl, refl)
moved_item IsAtStart.empty e = absurd (cc)

goto_item : {p d : ℕ} {x : Symbol} → Moved smallest x (HasItem start_closed) p d → (p ≡ 1) × (d ≡ 1)
goto_item (set.Moved.moved {p = p} {d = d} h b) = moved_item (at_start p d h) b.1

goto_look : {p d t : ℕ} {x : Symbol} → Moved smallest x (λ q e. LooksIn start_closed q e t) p d → (p ≡ 1) × (d ≡ 1) × (t ≡ 0)
goto_look {t = t} (set.Moved.moved {p = p} {d = d} h b) =
    let (s, z) = look_at_start p d t h in let (i, j) = moved_item s b.1 in (i, j, z)

goto_is : IsGoto smallest start_closed (Rule 1) (one 1 1)
goto_is = record {
  items = λ p d. (
    λ h. let (i, j) = (one_items 1 1 p d).0 h in rw (i, j) (set.Moved.moved {d = 0} refl ([], refl)),
    λ m. (one_items 1 1 p d).1 (goto_item m),
  );
  looks = λ p d t. (
    λ h. let (i, j, z) = (one_looks 1 1 p d t).0 h in rw (i, j, z) (set.Moved.moved {d = 0} refl ([], refl)),
    λ m. (one_looks 1 1 p d t).1 (goto_look m),
  );
}

-- there is no other edge
rule_edge : (r u : ℕ) (b : Bool) → (r == 1) ≡ b → cond b (Some 1) None ≡ Some u → (r ≡ 1) × (u ≡ 1)
rule_edge r u true k e = (eqb-true r 1 k, cc)
rule_edge r u false k e = absurd (cc)

edge_is : (s u : ℕ) (x : Symbol) → edge smallest_graph s x ≡ Some u → (s ≡ 0) × (x ≡ Rule 1) × (u ≡ 1)
edge_is zero u (Rule r) e = let (i, j) = rule_edge r u (r == 1) refl e in (refl, ap Rule i, j)
edge_is zero u (Token t) e = absurd (cc)
edge_is (suc zero) u x e = absurd (cc)
edge_is (suc (suc s)) u x e = absurd (cc)

edge_from : (s : ℕ) (x : Symbol) → IsSome (edge smallest_graph s x) → (p : ℕ) × (d : ℕ) × HasItem (closed_of smallest_graph s) p d × IsBefore smallest p d x
edge_from s x h =
    let (u, e) = value_of_some (edge smallest_graph s x) h in
    let (i, j, k) = edge_is s u x e in
    rw (i, j) (1, 0, refl, ([], refl))

edge_for : (s : ℕ) (x : Symbol) → (p : ℕ) × (d : ℕ) × HasItem (closed_of smallest_graph s) p d × IsBefore smallest p d x → IsSome (edge smallest_graph s x)
edge_for zero x (p, d, h, b) = let (i, j, z) = behind_start x b.0 (at_start p d h) b.1 in rw j refl
edge_for (suc zero) x (p, d, h, b) = absurd (nothing_behind ((one_items 1 1 p d).0 h) b.1)
edge_for (suc (suc s)) x (p, d, h, b) = absurd (cc)

goto_leads : (s u : ℕ) (x : Symbol) → edge smallest_graph s x ≡ Some u → LeadsToGoto smallest smallest_graph s x u
goto_leads s u x e =
    let (i, j, k) = edge_is s u x e in
    rw (i, j, k) (record { below = omega arith; items = goto_is.items; looks = λ p d t. (goto_is.looks p d t).1 })

smallest_gotos : ContainGotos smallest smallest_graph
smallest_gotos = record { edges = λ s x. (edge_from s x, edge_for s x); gotos = goto_leads }

-- ---- the graph is the grammar's

list_to : (s : ℕ) → s < length smallest_graph → (w : List Symbol) × Leads smallest_graph w s
list_to zero l = ([], graph.Leads.start)
list_to (suc zero) l = (Rule 1 ∷ [], graph.Leads.follow (Rule 1) graph.Leads.start refl)
list_to (suc (suc s)) l = absurd (omega arith)

smallest_reached : AreReached smallest_graph
smallest_reached = record {
  reached = list_to;
  start = λ s u x e z. let (i, j, k) = edge_is s u x e in omega arith;
  one_symbol = λ s v u x y e f. (edge_is s u x e).1 ∙ sym (edge_is v u y f).1;
}

fits_one : (q e : ℕ) → FitsAt smallest q e (true ∷ []) → Fits smallest (one q e)
fits_one q e f p d v h = elim (item_found (one q e) p d v h) [ inl i ↦ subst (λ k. FitsAt smallest k.0.0 k.0.1 k.1) (sym i) f | inr i ↦ absurd i ]

start_fits : Fits smallest start_closed
start_fits p d v h = elim (item_found start_closed p d v h) [
  | inl i ↦ subst (λ k. FitsAt smallest k.0.0 k.0.1 k.1) (sym i) (record { production = omega arith; dot = omega arith; bits = refl })
  | inr (inl i) ↦ subst (λ k. FitsAt smallest k.0.0 k.0.1 k.1) (sym i) (record { production = omega arith; dot = omega arith; bits = refl })
  | inr (inr i) ↦ absurd i
]

cores_fit : (s : ℕ) → s < length smallest_graph → Fits smallest (core_of smallest_graph s)
cores_fit zero l = fits_one 1 0 (record { production = omega arith; dot = omega arith; bits = refl })
cores_fit (suc zero) l = fits_one 1 1 (record { production = omega arith; dot = omega arith; bits = refl })
cores_fit (suc (suc s)) l = absurd (omega arith)

closed_fit : (s : ℕ) → s < length smallest_graph → Fits smallest (closed_of smallest_graph s)
closed_fit zero l = start_fits
closed_fit (suc zero) l = cores_fit 1 l
closed_fit (suc (suc s)) l = absurd (omega arith)

states_close : (s : ℕ) → s < length smallest_graph → IsClosure smallest (core_of smallest_graph s) (closed_of smallest_graph s)
states_close zero l = start_closes
states_close (suc zero) l = end_closes
states_close (suc (suc s)) l = absurd (omega arith)

-- its cores are rooted by lists by which they are shared
pub smallest_shared : AreShared smallest smallest_graph
smallest_shared zero l =
    let k = start_shared smallest (one 1 0) smallest_grammar one_start in ([] ∷ [], k.0, k.1)
smallest_shared (suc zero) l =
    let k = start_shared smallest (one 1 0) smallest_grammar one_start in
    let n = goto_shared smallest_grammar k.0 k.1 start_closes goto_is (1, 0, refl, ([], refl)) in
    (followed ([] ∷ []) (Rule 1), n.0, n.1)
smallest_shared (suc (suc s)) l = absurd (omega arith)

-- the graph is that of the smallest grammar
pub smallest_graph_of : IsGraphOf smallest smallest_graph
smallest_graph_of =
    graph_of_rooted smallest_grammar
    (record { fit_cores = cores_fit; fit_closed = closed_fit; closures = states_close; some = omega arith; start = one_start })
    smallest_gotos smallest_reached (λ s l. let k = smallest_shared s l in (k.0, k.1))
