use Rattle.lryacc.specs.Numbered.{AddsNumbers}
use Rattle.lryacc.proofs.numbering.Numbering.add_tokens.Given as goal

abbrev pub invariant-loop-number : goal.invariant-loop-number
invariant-loop-number l = AddsNumbers l.initial.self l.self
