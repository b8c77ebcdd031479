use Rattle.std.proofs.Common.{ap, is_some, length, arith}
use Rattle.std.proofs.lemmas.List.{length-map}
use Rattle.lryacc.proofs.useful.Selection.new.Goals as goal

pub returns-clause-many : goal.returns-clause-many
returns-clause-many c =
    let numbers = c.in_ok-numbers.numbers in
    let kept = c.in_ok-kept.kept in
    omega (arith, ap length c.in_ok-numbers.ensures.rules, length-map numbers.items is_some, c.in_ok-kept.ensures.many, numbers.ok.0, kept.found.ok.0)

pub returns-clause-reached : goal.returns-clause-reached
returns-clause-reached c = rw c.in_ok-numbers.ensures.rules c.in_ok-kept.ensures.reached

pub returns-clause-least_reached : goal.returns-clause-least_reached
returns-clause-least_reached c = rw c.in_ok-numbers.ensures.rules c.in_ok-kept.ensures.least
