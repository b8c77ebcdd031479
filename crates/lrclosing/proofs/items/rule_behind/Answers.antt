use Rattle.lrspec.specs.grammars.Grammar.{Rule}
use Rattle.lrclosing.proofs.items.rule_behind.Goals as goal

pub returns-in-None-clause-none : goal.returns-in-None-clause-none
returns-in-None-clause-none g c = λ r. c.in-None.ensures.none (Rule r)
