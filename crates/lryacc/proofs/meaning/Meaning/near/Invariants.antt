use Rattle.std.specs.Prelude.{IfSome}
use Rattle.lryacc.specs.NamedSymbols.{name_of}
use Rattle.lryacc.specs.Spellings.{IsNearSymbol}
use Rattle.lryacc.proofs.meaning.Meaning.near.Given as goal

abbrev pub invariant-loop-number : goal.invariant-loop-number
invariant-loop-number l = IfSome l.best (IsNearSymbol l.self.symbols (name_of l.self.symbols.text.now l.self.symbols.dialect l.lexeme))
