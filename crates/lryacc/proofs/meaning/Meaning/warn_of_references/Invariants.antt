use Rattle.lryacc.specs.EndTokens.{KeepsMeaning}
use Rattle.lryacc.proofs.meaning.Meaning.warn_of_references.Given as goal

abbrev pub invariant-loop-alternative : goal.invariant-loop-alternative
invariant-loop-alternative l = KeepsMeaning l.initial.self l.self
