use Rattle.lryacc.specs.NamedSymbols.{AddsNames}
use Rattle.lryacc.proofs.symbols.Symbols.add_statements.Given as goal

abbrev pub invariant-loop-statement : goal.invariant-loop-statement
invariant-loop-statement l = AddsNames l.initial.self l.self
