use Rattle.lryacc.specs.EndTokens.{KeepsMeaning}
use Rattle.lryacc.proofs.meaning.Meaning.warn_of_action.Given as goal

abbrev pub invariant-loop-at : goal.invariant-loop-at
invariant-loop-at l = KeepsMeaning l.initial.self l.self
