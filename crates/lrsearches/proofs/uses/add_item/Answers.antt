-- the item stands before a rule, before a token, or at the end of the body
use Rattle.std.proofs.Common.{arith}
use Rattle.lrspec.specs.grammars.Grammar.{Rule, Token}
use Rattle.lrspec.specs.grammars.ItemSets.{IsBefore}
use Rattle.lrspec.proofs.grammars.BodyFacts.{symbol_at_dot}
use Rattle.lrsearches.proofs.UsesInTurn.{before_token, use_added}
use Rattle.lrsearches.proofs.uses.add_item.Goals as goal

pub returns-in_default-clause-added : goal.returns-in_default-clause-added
returns-in_default-clause-added g c r y e row = absurd (c.in_default.ensures.none (Rule r) (y, e))

pub add_use-requires : goal.add_use-requires
add_use-requires g c =
    let number = g.T.IndexStorage.number in
    let before : IsBefore c.args.grm.now (number c.args.pidx.0) (number c.args.dot.0) (Rule (number c.in-Rule.ridx.0)) = rw c.in-Rule.is at c.in-Some.ensures.found in
    let below = (symbol_at_dot c.step_over.ensures.shape (number c.args.pidx.0) (number c.args.dot.0) (Rule (number c.in-Rule.ridx.0)) before).1 in
    omega (arith, c.from.ensures, c.requires.rules, below)

pub returns-in_ok-add_use-in-Rule-clause-added : goal.returns-in_ok-add_use-in-Rule-clause-added
returns-in_ok-add_use-in-Rule-clause-added g c =
    let number = g.T.IndexStorage.number in
    let p = number c.args.pidx.0 in
    let d = number c.args.dot.0 in
    let before : IsBefore c.args.grm.now p d (Rule (number c.in-Rule.ridx.0)) = rw c.in-Rule.is at c.in-Some.ensures.found in
    use_added number c.args.grm.now c.add_use.new.uses.items p d (number c.in-Rule.ridx.0) before (rw c.from.ensures at c.in_ok-add_use-in-Rule.ensures.added)

pub returns-in-Token-clause-added : goal.returns-in-Token-clause-added
returns-in-Token-clause-added g c r y e row =
    let number = g.T.IndexStorage.number in
    let p = number c.args.pidx.0 in
    let d = number c.args.dot.0 in
    let before : IsBefore c.args.grm.now p d (Token (number c.in-Token.field-0.0)) = rw c.in-Token.is at c.in-Some.ensures.found in
    absurd (before_token c.args.grm.now p d (number c.in-Token.field-0.0) r y before e)
