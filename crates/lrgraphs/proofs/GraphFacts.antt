-- a stored graph as plain data, state by state
use Rattle.std.proofs.Common.{◌≡◌, ℕ, ◌<◌, List, length, get_or, Some, refl, sym, ap, ◌∙◌}
use Rattle.std.specs.Prelude.{slice_get, option_map}
use Rattle.std.proofs.lemmas.List.{length-map}
use Rattle.std.proofs.lemmas.Option.{slice_get-map, slice_get-get_or}
use Rattle.lrgraphs.specs.declared.stategraph.State as stored
use Rattle.lrspec.specs.grammars.Grammar.{Symbol}
use Rattle.lrspec.specs.merging.Graph as math
use Rattle.lrspec.specs.merging.Graph.{Graph, core_of, closed_of, edge, edge_at, edges_or_none}
use Rattle.lritems.specs.ItemsOf.{set_of}
use Rattle.lrgraphs.specs.GraphOf.{edges_of, state_of, graph_of}

-- the edges of a state that was looked up
pub edge_of_stored :
    {T : Type 0} (number : T → ℕ) (ss ds : List (stored.State T)) (k n : ℕ) (s : stored.State T) (x : Symbol) → ds ≡ ss → n ≡ k → n < length ds
    → s ≡ get_or ds n s → edge (graph_of number ss) k x ≡ edge_at (edges_of number (λ u. number u.0) s.edges.entries) x
edge_of_stored number ss ds k n s x e f l i =
    let found : slice_get ss k ≡ Some s = rw (← e, ← f) (slice_get-get_or ds n s l ∙ ap Some (sym i)) in
    ap (λ o. edge_at (edges_or_none o) x) (slice_get-map (state_of number) ss k ∙ ap (option_map (state_of number)) found)

-- a graph has as many states as are stored
pub states_stored : {T : Type 0} (number : T → ℕ) (h : Graph) (ss : List (stored.State T)) → graph_of number ss ≡ h → length h ≡ length ss
states_stored number h ss is = rw (← is, length-map) refl

-- what is read of a state is what the graph has there
module _
    {T : Type 0} (number : T → ℕ) (h : Graph) (ss : List (stored.State T)) (k : ℕ) (s : stored.State T)
    (is : graph_of number ss ≡ h) (l : k < length h) (at : s ≡ get_or ss k s)
  where
    there : slice_get h k ≡ Some (state_of number s)
    there =
        let found : slice_get ss k ≡ Some s = slice_get-get_or ss k s (rw (← is, length-map) at l) ∙ ap Some (sym at) in
        rw (← is) (slice_get-map (state_of number) ss k ∙ ap (option_map (state_of number)) found)

    pub core_read : set_of number s.core ≡ core_of h k
    core_read = rw there refl

    pub closed_read : set_of number s.closed ≡ closed_of h k
    closed_read = rw there refl

    pub edges_read : edges_of number (λ u. number u.0) s.edges.entries ≡ math.edges_of h k
    edges_read = rw there refl
