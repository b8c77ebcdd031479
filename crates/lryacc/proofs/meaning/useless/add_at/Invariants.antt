use Rattle.std.proofs.Common.{◌≡◌, ◌+◌, ◌++◌, map, take, vec_len}
use Rattle.lryacc.specs.Told.{fault_at}
use Rattle.lryacc.proofs.meaning.useless.add_at.Given as goal

abbrev pub invariant-loop-span : goal.invariant-loop-span
invariant-loop-span l = record {
  count : vec_len l.faults ≡ vec_len l.initial.faults + l.span-index;
  added : l.faults.items ≡ l.initial.faults.items ++ map (fault_at l.kind) (take l.span-index l.places);
}
