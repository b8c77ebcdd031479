use Rattle.lryacc.specs.Numbered.{AddsNumbers}
use Rattle.lryacc.proofs.numbering.Numbering.add_rules.Given as goal

abbrev pub invariant-loop-alternative : goal.invariant-loop-alternative
invariant-loop-alternative l = AddsNumbers l.initial.self l.self
