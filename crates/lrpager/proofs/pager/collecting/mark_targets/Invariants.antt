use Rattle.std.proofs.Common.{ℕ, ◌⊎◌, drop}
use Rattle.lrgraphs.specs.GraphOf.{edges_of}
use Rattle.lrpager.specs.Collecting.{IsMarked, HasTarget, MarksOnly}
use Rattle.lrpager.proofs.pager.collecting.mark_targets.Given as goal

abbrev pub invariant-loop-symbol : goal.invariant-loop-symbol
invariant-loop-symbol g l =
    let number = g.T.IndexStorage.number in
    let targets = HasTarget (edges_of number (λ u. u) l.edges) in
    record {
      only : MarksOnly targets l.initial.marks l.initial.todo.items l.marks l.todo.items;
      marked : (u : ℕ) → targets u → IsMarked l.marks u ⊎ HasTarget (edges_of number (λ u. u) (drop l._symbol-index l.edges)) u;
    }
