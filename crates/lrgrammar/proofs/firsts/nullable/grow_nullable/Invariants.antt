use Rattle.std.proofs.Common.{◌≡◌, ◌<◌, ◌≤◌, true, false, length}
use Rattle.lrgrammar.specs.NullableBits.{HoldsNullable, IsClosedUnderBodiesBelow}
use Rattle.lrbits.specs.Bits.{unset}
use Rattle.lrgrammar.proofs.firsts.nullable.grow_nullable.Given as goal

abbrev pub invariant-loop-i : goal.invariant-loop-i
invariant-loop-i g l = record {
  rules : length l.known ≡ length l.initial.known;
  sound : HoldsNullable l.grm l.initial.known → HoldsNullable l.grm l.known;
  fewer : unset l.known ≤ unset l.initial.known;
  falls : l.grown ≡ true → unset l.known < unset l.initial.known;
  done : l.grown ≡ false → IsClosedUnderBodiesBelow l.grm l.known l.i;
}
