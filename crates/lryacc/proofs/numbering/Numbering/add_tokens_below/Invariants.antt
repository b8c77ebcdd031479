use Rattle.lryacc.specs.Numbered.{AddsNumbers}
use Rattle.lryacc.proofs.numbering.Numbering.add_tokens_below.Given as goal

abbrev pub invariant-loop-before : goal.invariant-loop-before
invariant-loop-before l = AddsNumbers l.initial.self l.self
