use Rattle.lrconflicts.specs.declared.moves.Move.TheVariants as code
use Rattle.lrambiguity.specs.Parts as part
use Rattle.lrreasons.proofs.Fillings.{filled_more, all_filled}
use Rattle.lrreasons.proofs.parts.filled.Goals as goal

pub loop-action-init : goal.loop-action-init
loop-action-init c = rw c.new.ensures.items part.IsFilled.nothing

pub loop-action-preserved : goal.loop-action-preserved
loop-action-preserved c =
    filled_more c.args.texts.now c.args.moves.now c.loop-action.action-index code.Shift c.loop-action.filling c.add.new.self
    c.loop-action-test.true c.loop-action.invariant (c.in_ok-add.ensures c.if-not-branch.false)

pub returns-then-filling-texts : goal.returns-then-filling-texts
returns-then-filling-texts c =
    all_filled c.args.texts.now c.args.moves.now c.loop-action.action-index c.loop-action.filling c.loop-action-test.false c.if-filling-texts.true c.loop-action.invariant
