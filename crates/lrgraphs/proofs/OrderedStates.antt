-- the item sets of a graph whose states are in order come upwards
use Rattle.std.specs.Prelude.{ℕ, ◌<◌, [], length}
use Rattle.std.specs.List.{All}
use Rattle.std.proofs.lemmas.Option.{slice_get-get_or}
use Rattle.std.proofs.lemmas.List.Elements.{All-get_or}
use Rattle.lrspec.specs.grammars.ItemSets.{AreUpwards}
use Rattle.lrspec.specs.merging.Graph.{State, Graph, IsInOrder, core_of, closed_of}

-- a state of nothing
nothing : State
nothing = record { core = []; closed = []; edges = [] }

pub cores_upwards : (h : Graph) (s : ℕ) → s < length h → All IsInOrder h → AreUpwards (core_of h s)
cores_upwards h s l all = rw (slice_get-get_or h s nothing l) ((All-get_or IsInOrder h s nothing l all).core)

pub closed_upwards : (h : Graph) (s : ℕ) → s < length h → All IsInOrder h → AreUpwards (closed_of h s)
closed_upwards h s l all = rw (slice_get-get_or h s nothing l) ((All-get_or IsInOrder h s nothing l all).closed)
