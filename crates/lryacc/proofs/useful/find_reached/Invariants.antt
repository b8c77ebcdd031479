use Rattle.lryacc.specs.UsefulRules.{FindsReached, productions_in}
use Rattle.lryacc.proofs.useful.find_reached.Given as goal

abbrev pub invariant-loop : goal.invariant-loop
invariant-loop l =
    FindsReached l.productive.found.items (productions_in l.parts)
    l.initial.search.found.items l.search.found.items
