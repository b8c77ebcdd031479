-- what is kept of the states that are reached: all of them, or what an outline needs
use Rattle.std.specs.Prelude.{◌≡◌, ℕ, ◌==◌, Bool, true, false, List, [], filter, map, length}
use Rattle.lrspec.specs.grammars.Grammar.{Grammar, body_of}
use Rattle.lrspec.specs.grammars.ItemSets.{Items, Fits, IsClosure}
use Rattle.lrspec.specs.merging.Graph.{State, Graph}
use Rattle.lrplacing.specs.Construction.{Draft}
use Rattle.lrpager.specs.Collecting.{IsRenumbered}
use Rattle.lrgraphs.specs.Outlines.{IsOutlineOf}
use Rattle.lrpager.specs.declared.pager.Built.{Built}
use Rattle.lrpager.specs.declared.pager.Built.TheVariants as built
use Rattle.lrpager.specs.declared.pager.Wanted.{Wanted}
use Rattle.lrpager.specs.declared.pager.Wanted.TheVariants as wanted
use Rattle.lrpager.specs.declared.pager.collecting.Kept.{Kept}
use Rattle.lrpager.specs.declared.pager.collecting.Kept.TheVariants.{Everything, Outline}

-- what is kept of the states, where it is known whether one is contested
abbrev pub kept_of : Wanted → Bool → Kept
kept_of wanted.Graph contested = Everything
kept_of wanted.Outline contested = Outline
kept_of wanted.GraphIfContested true = Everything
kept_of wanted.GraphIfContested false = Outline

-- whether the item is complete: its dot stands behind the whole body
abbrev pub is_complete : Grammar → (ℕ × ℕ) × List Bool → Bool
is_complete g e = e.0.1 == length (body_of g e.0.0)

-- what is kept of a closed state
abbrev pub kept_closed : Kept → Grammar → Items → Items
kept_closed Everything g a = a
kept_closed Outline g a = filter (is_complete g) a

-- what is kept of a core
abbrev pub kept_core : Kept → Items → Items
kept_core Everything a = a
kept_core Outline a = []

-- what is kept of a state
abbrev pub kept_state : Kept → Grammar → State → State
kept_state kept g s = record {
  core = kept_core kept s.core;
  closed = kept_closed kept g s.closed;
  edges = s.edges;
}

-- what is kept of each state of a graph
abbrev pub kept_states : Kept → Grammar → Graph → Graph
kept_states kept g h = map (kept_state kept g) h

-- the items are what is kept of the closure of the core `a`
pub record IsKeptClosure (kept : Kept) (g : Grammar) (a items : Items) : Type 0 where
  pub closed : Items
  pub closure : IsClosure g a closed
  pub fits : Fits g closed
  pub kept_is : items ≡ kept_closed kept g closed

-- the state is what is kept of the draft with its closed state and with its edges by new numbers
pub record IsKeptState (kept : Kept) (g : Grammar) (f : ℕ → ℕ) (d : Draft) (s : State)
    : Type 0 where
  pub whole : State
  pub renumbered : IsRenumbered g f d whole
  pub kept_is : s ≡ kept_state kept g whole

-- it is the graph, or its outline
abbrev pub IsBuiltOf : {T : Type 0} → Grammar → Graph → Built T → Type 0
IsBuiltOf g h (built.Graph graph) = graph ≡ h
IsBuiltOf g h (built.Outline outline) = IsOutlineOf g h outline.graph
