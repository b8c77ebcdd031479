use Rattle.lryacc.specs.UsefulRules.{FindsProductive, productions_in}
use Rattle.lryacc.proofs.useful.find_productive.Given as goal

abbrev pub invariant-loop : goal.invariant-loop
invariant-loop l =
    FindsProductive (productions_in l.parts) l.initial.search.found.items l.search.found.items
