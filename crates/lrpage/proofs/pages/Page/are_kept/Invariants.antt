-- those so far are kept
use Rattle.std.proofs.Common.{take}
use Rattle.std.specs.List.{All}
use Rattle.lrpage.specs.KeptEntries.{IsShownKept}
use Rattle.lrpage.proofs.pages.Page.are_kept.Given as goal

abbrev pub invariant-loop-entry : goal.invariant-loop-entry
invariant-loop-entry l = All (IsShownKept l.self.found.now.grm l.self.found.now.graph l.self.found.now.table) (take l.entry-index l.entries)
