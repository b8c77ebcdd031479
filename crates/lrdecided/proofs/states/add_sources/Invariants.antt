-- the sources so far are listed
use Rattle.std.proofs.Common.{◌≡◌, drop, length}
use Rattle.lrsearches.specs.StoredWays.{row_of}
use Rattle.lrgrammar.specs.Symbols.{number_of}
use Rattle.lrdecided.specs.StoredNodes.{states_of}
use Rattle.lrdecided.specs.StoredStates.{AreSeen, KeepsStates}
use Rattle.lrdecided.proofs.CollectedInTurn.{AreAdding}
use Rattle.lrdecided.proofs.states.add_sources.Given as goal

abbrev pub invariant-loop-edge : goal.invariant-loop-edge
invariant-loop-edge l =
    record {
      size : length l.seen ≡ length l.fn.seen;
      seen : AreSeen l.seen (states_of l.before.items);
      kept : KeepsStates (states_of l.fn.before.items) (states_of l.before.items);
      adding : AreAdding (row_of number_of l.row) (row_of number_of (drop l.edge-index l.row)) (states_of l.before.items);
    }
