use Rattle.lryacc.specs.UsefulRules.{FindsReached, productions_in}
use Rattle.lryacc.proofs.useful.find_behind.Given as goal

abbrev pub invariant-loop-prod : goal.invariant-loop-prod
invariant-loop-prod l =
    FindsReached l.productive.found.items (productions_in l.parts)
    l.initial.search.found.items l.search.found.items
