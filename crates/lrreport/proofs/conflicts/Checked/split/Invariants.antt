-- the causes so far are those of the first meetings, and none of them has a conflict of the others
use Rattle.std.proofs.Common.{◌≡◌, ◌≤◌, ◌-◌, false, length, take, drop, map}
use Rattle.std.specs.List.{All, AllPairs, flat_map}
use Rattle.lrreport.specs.Causes.{states_of, AreApart, IsOneCause, IsOneConflict}
use Rattle.lrreport.proofs.OneConflict.{AreOthers}
use Rattle.lrreport.proofs.conflicts.Checked.split.Given as goal

abbrev pub invariant-loop-from : goal.invariant-loop-from
invariant-loop-from l =
    record {
      inside : l.from ≤ length l.meetings;
      states : flat_map states_of l.causes.items ≡ take l.from (map (λ m. m.evidence.now) l.meetings);
      alike : All IsOneCause l.causes.items;
      kind : l.self.told.options.detail.all ≡ false → All (IsOneConflict l.self) l.causes.items;
      apart : l.self.told.options.detail.all ≡ false → AllPairs (AreApart l.self) l.causes.items;
      others : l.self.told.options.detail.all ≡ false → All (AreOthers l.self (drop l.from l.meetings)) l.causes.items;
    }

abbrev pub decreases-loop-from : goal.decreases-loop-from
decreases-loop-from l = length l.meetings - l.from
