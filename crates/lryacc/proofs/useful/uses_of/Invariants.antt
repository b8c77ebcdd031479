use Rattle.lryacc.specs.UsefulRules.{FindsProductive, productions_in}
use Rattle.lryacc.proofs.useful.uses_of.Given as goal

abbrev pub invariant-loop-prod : goal.invariant-loop-prod
invariant-loop-prod l =
    FindsProductive (productions_in l.parts) l.initial.search.found.items l.search.found.items
