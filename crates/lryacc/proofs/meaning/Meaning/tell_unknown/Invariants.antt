use Rattle.lryacc.specs.EndTokens.{KeepsMeaning}
use Rattle.lryacc.proofs.meaning.Meaning.tell_unknown.Given as goal

abbrev pub invariant-loop-statement : goal.invariant-loop-statement
invariant-loop-statement l = KeepsMeaning l.initial.self l.self
