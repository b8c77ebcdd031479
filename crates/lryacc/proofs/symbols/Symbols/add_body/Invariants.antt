use Rattle.lryacc.specs.NamedSymbols.{AddsNames}
use Rattle.lryacc.proofs.symbols.Symbols.add_body.Given as goal

abbrev pub invariant-loop-part : goal.invariant-loop-part
invariant-loop-part l = AddsNames l.initial.self l.self
