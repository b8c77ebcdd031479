use Rattle.std.proofs.Common.{take}
use Rattle.lryacc.specs.Aliases.{TakesAliases}
use Rattle.lryacc.specs.EndTokens.{TakesEnd}
use Rattle.lryacc.specs.LinesTaken.{TakesLines}
use Rattle.lryacc.specs.NamedSymbols.{TakesSome}
use Rattle.lryacc.specs.SaidTaken.{TakesSaid}
use Rattle.lryacc.proofs.meaning.Meaning.take_statements.Given as goal

abbrev pub invariant-loop-statement : goal.invariant-loop-statement
invariant-loop-statement l = record {
  taken : TakesSome l.statements l.initial.self.symbols l.self.symbols;
  end : TakesEnd (take l.statement-index l.statements) l.initial.self l.self;
  aliases : TakesAliases (take l.statement-index l.statements) l.initial.self l.self;
  lines : TakesLines (take l.statement-index l.statements) l.initial.self l.self;
  said : TakesSaid (take l.statement-index l.statements) l.initial.self l.self;
}
