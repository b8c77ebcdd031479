-- a pair that leads so is among those that are left
use Rattle.std.proofs.Common.{ℕ, drop}
use Rattle.std.specs.Prelude.{Contains}
use Rattle.lrkept.proofs.peeling.leads_into.Given as goal

abbrev pub invariant-loop-pair : goal.invariant-loop-pair
invariant-loop-pair l = (m : ℕ) → Contains l.pairs (l.number, m) → Contains l.numbers m → Contains (drop l.pair-index l.pairs) (l.number, m)
