-- the meetings so far are the first runs of the entries
use Rattle.std.proofs.Common.{◌≡◌, ◌≤◌, ◌-◌, ◌++◌, false, length, map, take, drop}
use Rattle.std.specs.List.{All, flat_map}
use Rattle.lrreport.specs.Causes.{runs_of, HasKind, IsMet}
use Rattle.lrreport.proofs.conflicts.Checked.met.Given as goal

abbrev pub invariant-loop-from : goal.invariant-loop-from
invariant-loop-from l = record {
  inside : l.from ≤ length l.evidence;
  whole : flat_map (λ m. m.evidence.now) l.met.items ≡ take l.from l.evidence;
  runs : l.self.told.options.detail.all ≡ false
      → map (λ m. m.evidence.now) l.met.items ++ runs_of (drop l.from l.evidence) ≡ runs_of l.evidence;
  met : All IsMet l.met.items;
  kinds : All (HasKind l.self) l.met.items;
}

abbrev pub decreases-loop-from : goal.decreases-loop-from
decreases-loop-from l = length l.evidence - l.from
