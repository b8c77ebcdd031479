use Rattle.std.proofs.Common.{length, map}
use Rattle.std.specs.List.{flat_map, range_with_len}
use Rattle.lrspec.specs.grammars.Grammar.{token_count}
use Rattle.lrverdicts.specs.Listed.{told}
use Rattle.lrfindings.specs.CellConflicts.{conflicts_at, reduced_in, resolved_at}
use Rattle.lrfindings.specs.StoredCells.{resolution}
use Rattle.lrfindings.proofs.CellsInTurn.{AreGivenBefore}
use Rattle.lrfindings.proofs.cells.cells_in.Given as goal

abbrev pub invariant-loop-state : goal.invariant-loop-state
invariant-loop-state l =
    let grm = l.looked.grm.now in
    let h = l.looked.graph.now in
    let tokens = range_with_len 0 (token_count grm) in
    record {
      left : AreGivenBefore (λ s. flat_map (conflicts_at grm h s) tokens) (length h) l.state-iterator (map told l.cells.left.items);
      resolved : AreGivenBefore (λ s. flat_map (resolved_at grm h s) tokens) (length h) l.state-iterator (map resolution l.cells.decisions.resolved.items);
      reduced : AreGivenBefore (λ s. map (λ p. (s, p)) (reduced_in grm h s)) (length h) l.state-iterator l.cells.reduced.items;
    }
