-- what is left behind the rule
use Rattle.std.proofs.Common.{◌∙◌, arith}
use Rattle.lrspec.specs.grammars.Grammar.{Rule, body_of}
use Rattle.lrspec.proofs.grammars.BodyFacts.{below_of_drop}
use Rattle.lrsearches.proofs.RestsInTurn.{rest_of_behind, rest_of_apart}
use Rattle.lrsearches.proofs.rests.rest_behind.Goals as goal

pub rest_from-requires-clause-place : goal.rest_from-requires-clause-place
rest_from-requires-clause-place g c =
    let number = g.T.IndexStorage.number in
    let b = c.in-Some.ensures.found in
    let below = below_of_drop (body_of c.args.grm.now (number c.args.item.0.0)) (number c.args.item.1.0) (Rule (number c.args.rule.0)) b.0 b.1 in
    omega (arith, below, c.from.ensures, c.in-Some.ensures.moved)

pub returns-in-Some : goal.returns-in-Some
returns-in-Some g c =
    let number = g.T.IndexStorage.number in
    let e = c.from.ensures ∙ c.in-Some.ensures.moved in
    rest_of_behind c.args.grm.now (number c.args.item.0.0) (number c.args.item.1.0) (number c.args.rule.0) (number c.args.token.0) _
    c.in-Some.ensures.found (rw e at c.rest_from.ensures)

pub returns-in-None : goal.returns-in-None
returns-in-None g c =
    let number = g.T.IndexStorage.number in
    rest_of_apart c.args.grm.now (number c.args.item.0.0) (number c.args.item.1.0) (number c.args.rule.0) (number c.args.token.0) c.in-None.ensures.none
