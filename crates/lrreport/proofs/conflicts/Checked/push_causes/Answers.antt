use Rattle.std.proofs.Common.{refl}
use Rattle.lrevidence.specs.Ambiguities.{IsProved}
use Rattle.lrevidence.specs.Losses.{IsLostAtEntry}
use Rattle.lrevidence.specs.DecidedEntries.{IsToldDecided}
use Rattle.lrreport.specs.Causes.{entries_in}
use Rattle.lrreport.proofs.Groups.{in_group}
use Rattle.lrreport.proofs.conflicts.Checked.push_causes.Goals as goal

pub push_cause-requires : goal.push_cause-requires
push_cause-requires c =
    let checked = c.args.self.now in
    record {
      kept = c.requires.kept;
      proved = in_group (IsProved checked.found.now.grm) entries_in c.args.causes.now _ refl c.requires.proved
          c.loop-place.place c.index-causes-place.result c.loop-place-test.true c.index-causes-place.is;
      lost = in_group (IsLostAtEntry checked.found.now.grm checked.found.now.table) entries_in c.args.causes.now _ refl c.requires.lost
          c.loop-place.place c.index-causes-place.result c.loop-place-test.true c.index-causes-place.is;
      entries = in_group (IsToldDecided checked.found.now.grm checked.found.now.graph) entries_in c.args.causes.now _ refl c.requires.entries
          c.loop-place.place c.index-causes-place.result c.loop-place-test.true c.index-causes-place.is;
    }
