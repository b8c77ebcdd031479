use Rattle.lryacc.specs.NamedSymbols.{AddsNames}
use Rattle.lryacc.proofs.symbols.Symbols.add_bodies.Given as goal

abbrev pub invariant-loop-alternative : goal.invariant-loop-alternative
invariant-loop-alternative l = AddsNames l.initial.self l.self
