-- those of the complete items so far are there
use Rattle.std.proofs.Common.{◌≡◌, ◌++◌, filter, map, take}
use Rattle.std.specs.Prelude.{◌==◌}
use Rattle.std.specs.List.{list_any}
use Rattle.lrfindings.proofs.cells.add_reduced.Given as goal

abbrev pub invariant-loop-reduction : goal.invariant-loop-reduction
invariant-loop-reduction l =
    l.reduced.items
    ≡ l.initial.reduced.items
    ++ map (λ p. (l.state, p)) (filter (λ p. list_any (λ q. q == p) l.made) (map (λ r. r.production) (take l.reduction-index l.reductions)))
