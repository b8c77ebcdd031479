use Rattle.std.proofs.Common.{◌<◌, All}
use Rattle.std.specs.BTreeMap.{btree_map_len, values}
use Rattle.lryacc.specs.Spans.{IsInside}
use Rattle.lryacc.specs.Told.{IsToldOf}
use Rattle.lryacc.proofs.file.in_order.Given as goal

abbrev pub invariant-loop-fault : goal.invariant-loop-fault
invariant-loop-fault l = record {
  inside : All (λ fault. IsInside fault.span l.text) (values l.by_place);
  told : All (IsToldOf l.text l.faults) (values l.by_place);
  some : 0 < l.fault-index → 0 < btree_map_len l.by_place;
}
