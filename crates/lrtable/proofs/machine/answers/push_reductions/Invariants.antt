use Rattle.std.proofs.Common.{◌≡◌, ◌++◌, map, take}
use Rattle.lrtable.specs.Labels.{labels_text}
use Rattle.lrtable.proofs.machine.answers.push_reductions.Given as goal

abbrev pub invariant-loop-pidx : goal.invariant-loop-pidx
invariant-loop-pidx g l =
    l.out.items ≡ l.initial.out.items ++ labels_text l.labels (map (λ p. g.T.IndexStorage.number p.0) (take l.pidx-index l.reductions))
