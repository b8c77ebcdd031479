-- it is in those so far
use Rattle.std.proofs.Common.{◌≡◌, true, take}
use Rattle.std.specs.List.{list_all}
use Rattle.lrreport.specs.Conflicts.{choice_at, is_choice}
use Rattle.lrreport.proofs.conflicts.Checked.is_common.Given as goal

abbrev pub invariant-loop-entry : goal.invariant-loop-entry
invariant-loop-entry l = list_all (λ e. is_choice l.choice (choice_at l.self.found.now.table e)) (take l.entry-index l.entries) ≡ true
