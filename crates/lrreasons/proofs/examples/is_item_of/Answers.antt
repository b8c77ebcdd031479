use Rattle.std.proofs.Common.{◌≡◌, length, ◌∙◌}
use Rattle.lrspec.specs.grammars.Grammar.{body_of}
use Rattle.lrreasons.specs.Examples.{shift, reduce}
use Rattle.lrreasons.proofs.SameNumbers.{are_same}
use Rattle.lrreasons.proofs.examples.is_item_of.Goals as goal

pub returns-then-eq : goal.returns-then-eq
returns-then-eq c = λ is.
    let production : c.in-Reduce.reduced.0 ≡ c.args.item.0.0 = are_same _ _ c.eq.result c.eq.ensures c.if-eq.true in
    let dot : c.args.item.1.0 ≡ length (body_of c.args.grm.now c.args.item.0.0) = are_same _ _ c.eq-then-eq.result c.eq-then-eq.ensures is ∙ c.prod_len.ensures in
    rw (c.in-Reduce.is, production, dot) reduce

pub returns-in-Shift : goal.returns-in-Shift
returns-in-Shift c = λ is. rw c.in-Shift.is (shift (rw (c.prod.ensures.body, c.from-in-Shift.ensures) at (c.is_before.ensures is)))
