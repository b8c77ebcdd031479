use Rattle.std.proofs.Common.{◌≡◌, length}
use Rattle.lrgrammar.specs.NullableBits.{HoldsNullable}
use Rattle.lrbits.specs.Bits.{unset}
use Rattle.lrgrammar.proofs.firsts.nullable.nullable_rules.Given as goal

abbrev pub invariant-loop : goal.invariant-loop
invariant-loop g l = record {
  rules : length l.known ≡ length l.grm.rule_names;
  sound : HoldsNullable l.grm l.known;
}

abbrev pub decreases-loop : goal.decreases-loop
decreases-loop g l = unset l.known
