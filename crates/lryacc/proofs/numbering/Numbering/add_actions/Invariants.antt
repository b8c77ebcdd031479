use Rattle.lryacc.specs.Numbered.{AddsNumbers}
use Rattle.lryacc.proofs.numbering.Numbering.add_actions.Given as goal

abbrev pub invariant-loop-at : goal.invariant-loop-at
invariant-loop-at l = AddsNumbers l.initial.self l.self
