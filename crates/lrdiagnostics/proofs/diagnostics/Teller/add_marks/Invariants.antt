-- something was added
use Rattle.lrdiagnostics.specs.Places.{AddsMore}
use Rattle.lrdiagnostics.proofs.diagnostics.Teller.add_marks.Given as goal

abbrev pub invariant-loop-mark : goal.invariant-loop-mark
invariant-loop-mark l = AddsMore l.fn.text l.text
