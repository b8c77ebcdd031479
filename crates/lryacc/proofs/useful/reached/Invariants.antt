use Rattle.std.proofs.Common.{vec_len}
use Rattle.lryacc.specs.UsefulRules.{AreReached, productions_in}
use Rattle.lryacc.proofs.LeastSets.{lacking}
use Rattle.lryacc.proofs.useful.reached.Given as goal

abbrev pub invariant-loop-rule : goal.invariant-loop-rule
invariant-loop-rule l =
    AreReached l.productive.found.items (vec_len l.parts.rules) (productions_in l.parts)
    l.search.found.items

abbrev pub decreases-loop-rule : goal.decreases-loop-rule
decreases-loop-rule l = lacking l.search.found.items
