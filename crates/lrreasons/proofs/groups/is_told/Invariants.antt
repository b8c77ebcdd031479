use Rattle.std.proofs.Common.{◌≡◌, false, take}
use Rattle.std.specs.List.{list_any}
use Rattle.lrreasons.specs.StoredTexts.{are_alike}
use Rattle.lrreasons.proofs.groups.is_told.Given as goal

abbrev pub invariant-loop-other : goal.invariant-loop-other
invariant-loop-other l = list_any (are_alike l.reason) (take l.other-index l.reasons) ≡ false
