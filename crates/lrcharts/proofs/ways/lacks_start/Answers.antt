-- by the body of the start production
use Rattle.std.proofs.Common.{◌≡◌, true, ap, ◌∙◌, arith}
use Rattle.lrspec.specs.grammars.Grammar.{Rule, body_of}
use Rattle.lrspec.proofs.tables.MachineStacks.{start_body}
use Rattle.lrcharts.proofs.LaidRows.{first_is}
use Rattle.lrcharts.proofs.ways.lacks_start.Goals as goal

pub prod-requires : goal.prod-requires
prod-requires c = omega (arith, c.in_order.ensures.shape.last, c.start_prod.ensures)

pub returns-in-Some : goal.returns-in-Some
returns-in-Some c = λ is shape span.
    let body = c.prod.ensures.body ∙ (ap (body_of c.args.grm.now) c.start_prod.ensures ∙ start_body shape) in
    let rule = first_is c.prod.result.now c.in-Some.rule.now (Rule shape.start.0) c.in-Some.ensures.value body in
    let made : c.has_span.result ≡ true = c.has_span.ensures.1 (rw rule span) in
    let wrong = rw made at is in absurd (cc)
