use Rattle.lryacc.specs.EndTokens.{KeepsMeaning}
use Rattle.lryacc.proofs.meaning.Meaning.tell_unknown_parts.Given as goal

abbrev pub invariant-loop-part : goal.invariant-loop-part
invariant-loop-part l = KeepsMeaning l.initial.self l.self
