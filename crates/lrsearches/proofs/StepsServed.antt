-- a list that serves the place behind a step serves, with the symbol of the step, the place before it
use Rattle.std.proofs.Common.{◌≡◌, ℕ, suc, List, [], ◌∷◌, ◌++◌, Option, None, Some}
use Rattle.lrspec.specs.grammars.Grammar.{Symbol, Grammar}
use Rattle.lrspec.specs.grammars.CanonicalItems as item
use Rattle.lrspec.specs.grammars.ItemSets as set
use Rattle.lrspec.specs.grammars.ItemSets.{HasItem, ClosedItem, IsBefore, Moved}
use Rattle.lrspec.specs.merging.Graph as graph
use Rattle.lrspec.specs.merging.Graph.{Graph, core_of, closed_of, edge, Leads, IsGraphOf}
use Rattle.lrspec.proofs.grammars.Closures.{has_of_looks}
use Rattle.lrsearches.specs.Searches as search
use Rattle.lrsearches.specs.Searches.{Need, Met, Look, Place, IsMet, Serves, Closes, GoesBack, Steps, IsLooking, AreLooking}

-- the list behind a step, with the symbol of the step
abbrev pub with_symbol : List Symbol → Option Symbol → List Symbol
with_symbol w None = w
with_symbol w (Some v) = w ++ v ∷ []

-- an item of a closed state with its dot above 0 is of the core
core_of_closed : {g : Grammar} {A : ℕ → ℕ → Type 0} {p d : ℕ} → ClosedItem g A p (suc d) → A p (suc d)
core_of_closed (set.ClosedItem.core a) = a

before_of_moved : {g : Grammar} {v : Symbol} {A : ℕ → ℕ → Type 0} {p d : ℕ} → Moved g v A p (suc d) → IsBefore g p d v
before_of_moved (set.Moved.moved a b) = b

module _ (g : Grammar) (h : Graph) (t : ℕ) (of : IsGraphOf g h) where
  -- an item with its dot above 0 in the state at the end of an edge was before the symbol of the edge
  before_of_edge : (s u : ℕ) (v : Symbol) (p d : ℕ) → edge h s v ≡ Some u → HasItem (closed_of h u) p (suc d) → IsBefore g p d v
  before_of_edge s u v p d e i =
      let goto = of.gotos.gotos s u v e in
      before_of_moved ((goto.items p (suc d)).0 (core_of_closed (((of.closures.closures u goto.below).items p (suc d)).0 i)))

  closes_met : (w : List Symbol) (s : ℕ) {x z : Need} → Leads h w s → Closes g (closed_of h s) t x z → IsMet g t w z → IsMet g t w x
  closes_met w s l (search.Closes.begins p d i e j b) m = item.Looks.expand ((of.hold.closed w s p d l).0 i) e j b
  closes_met w s l (search.Closes.inherit p d i e j n) m = item.Looks.inherit m e j n

  back_met :
      (w : List Symbol) (s u : ℕ) (v : Symbol) {x a : Need} → edge h s v ≡ Some u → IsLooking (closed_of h u) t x → GoesBack x a → IsMet g t w a
      → IsMet g t (w ++ v ∷ []) x
  back_met w s u v e k search.GoesBack.met m = tt
  back_met w s u v e k (search.GoesBack.look {p = p} {d = d}) m =
      item.Looks.advance m (before_of_edge s u v p d e (has_of_looks (closed_of h u) p (suc d) t k)).1

  pub step_served : (w : List Symbol) {a b : Place} {o : Option Symbol} → AreLooking h t a → Steps g h t a o b → Serves g h t w b → Serves g h t (with_symbol w o) a
  step_served w k (search.Steps.first c) m = record { leads = m.leads; first = closes_met w _ m.leads c m.first; second = m.second }
  step_served w k (search.Steps.second c) m = record { leads = m.leads; first = m.first; second = closes_met w _ m.leads c m.second }
  step_served w k (search.Steps.back {s = s} {u = u} {v = v} e i j) m =
      record { leads = graph.Leads.follow v m.leads e; first = back_met w s u v e k.0 i m.first; second = back_met w s u v e k.1 j m.second }
