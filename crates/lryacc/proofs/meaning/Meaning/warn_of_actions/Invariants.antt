use Rattle.lryacc.specs.EndTokens.{KeepsMeaning}
use Rattle.lryacc.proofs.meaning.Meaning.warn_of_actions.Given as goal

abbrev pub invariant-loop-before : goal.invariant-loop-before
invariant-loop-before l = KeepsMeaning l.initial.self l.self
