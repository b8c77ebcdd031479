-- by the first symbol
use Rattle.lrcharts.proofs.EndsInTurn.{first_derived}
use Rattle.lrcharts.proofs.laying.may_stand.Goals as goal

pub returns-in-Some : goal.returns-in-Some
returns-in-Some c = λ none from to laid. first_derived c.args.symbols.now c.in-Some.first.now c.in-Some.ensures.value (c.is_derived.ensures none from) laid
