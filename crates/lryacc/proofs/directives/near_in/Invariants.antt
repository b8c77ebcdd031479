use Rattle.std.specs.Prelude.{IfSome, slice_get}
use Rattle.lryacc.specs.Spellings.{IsNear}
use Rattle.lryacc.proofs.directives.near_in.Given as goal

abbrev pub invariant-loop-at : goal.invariant-loop-at
invariant-loop-at l = IfSome l.best (λ near. IfSome (slice_get l.names near.at) (λ pair. IsNear l.name pair.0.now))
