-- by the first symbol
use Rattle.lrcharts.proofs.EndsInTurn.{first_derived}
use Rattle.lrcharts.proofs.laying.may_lead.Goals as goal

pub returns-in-Some : goal.returns-in-Some
returns-in-Some c = λ none to laid. first_derived c.args.symbols.now c.in-Some.first.now c.in-Some.ensures.value (c.is_derived_from.ensures none) laid
