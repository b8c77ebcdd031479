use Rattle.std.proofs.lemmas.List.Sorted.{All-permutation}
use Rattle.lrevidence.specs.Ambiguities.{IsProved}
use Rattle.lrevidence.specs.Losses.{IsLostAtEntry}
use Rattle.lrevidence.specs.DecidedEntries.{IsToldDecided}
use Rattle.lrreport.proofs.conflicts.Checked.push_conflicts.Goals as goal

pub push_causes-requires : goal.push_causes-requires
push_causes-requires c =
    let checked = c.args.self.now in
    let order = c.in-Ok.ensures.each in
    record {
      kept = c.requires.kept;
      proved = rw c.as_slice-causes.ensures.value (All-permutation (IsProved checked.found.now.grm) _ _ order c.requires.proved);
      lost = rw c.as_slice-causes.ensures.value (All-permutation (IsLostAtEntry checked.found.now.grm checked.found.now.table) _ _ order c.requires.lost);
      entries = rw c.as_slice-causes.ensures.value (All-permutation (IsToldDecided checked.found.now.grm checked.found.now.graph) _ _ order c.requires.entries);
    }
