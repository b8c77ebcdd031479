use Rattle.std.proofs.Common.{◌≡◌, ◌++◌, map}
use Rattle.std.specs.Prelude.{option_to_list}
use Rattle.std.specs.List.{flat_map, range_with_len}
use Rattle.lrverdicts.specs.Listed.{told}
use Rattle.lrfindings.specs.CellConflicts.{conflicts_at, made_at, resolved_at}
use Rattle.lrfindings.specs.StoredCells.{resolution}
use Rattle.lrfindings.proofs.cells.Cells.add_state.Given as goal

abbrev pub invariant-loop-token : goal.invariant-loop-token
invariant-loop-token l =
    let s = l.state.0 in
    record {
      left :
          map told l.self.left.items
          ≡ map told l.fn.self.left.items ++ flat_map (conflicts_at l.looked.grm.now l.looked.graph.now s) (range_with_len 0 l.token);
      resolved :
          map resolution l.self.decisions.resolved.items
          ≡ map resolution l.fn.self.decisions.resolved.items ++ flat_map (resolved_at l.looked.grm.now l.looked.graph.now s) (range_with_len 0 l.token);
      made : l.made.items ≡ flat_map (λ t. option_to_list (made_at l.looked.grm.now l.looked.graph.now s t)) (range_with_len 0 l.token);
      reduced : l.self.reduced.items ≡ l.fn.self.reduced.items;
    }
