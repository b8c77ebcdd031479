use Rattle.std.specs.Ordering.{nat_cmp}
use Rattle.std.specs.BTreeMap.{get}
use Rattle.lrparts.specs.LookUps.{FindsKinds}
use Rattle.lrparts.proofs.doubles.mixed_level.Given as goal

abbrev pub invariant-loop-token : goal.invariant-loop-token
invariant-loop-token l = FindsKinds (get nat_cmp l.kinds) l.parts.tokens.items l.token-index
