use Rattle.std.proofs.lemmas.Result.{IfOk-weaker}
use Rattle.lrtable.specs.RunAnswers.{text_of}
use Rattle.lrambiguity.proofs.replays.Replay.make.Goals as goal

pub returns-in-Shift-clause-made : goal.returns-in-Shift-clause-made
returns-in-Shift-clause-made g c = rw c.in-Shift.is (IfOk-weaker c.shift.result _ _ (λ made all is. all is c.args.grm.now) c.shift.ensures.made)

pub returns-in-Shift-clause-nowhere : goal.returns-in-Shift-clause-nowhere
returns-in-Shift-clause-nowhere g c =
    rw c.in-Shift.is (IfOk-weaker c.shift.result _ _ (λ made all is. all is c.args.grm.now c.in_order.ensures.shape) c.shift.ensures.nowhere)

pub returns-in-Reduce-clause-made : goal.returns-in-Reduce-clause-made
returns-in-Reduce-clause-made g c =
    let text = text_of g.T.IndexStorage.number c.args.text.now in
    rw c.in-Reduce.is (IfOk-weaker c.reduce.result _ _ (λ made all is. all is text) c.reduce.ensures.made)

pub returns-in-Reduce-clause-nowhere : goal.returns-in-Reduce-clause-nowhere
returns-in-Reduce-clause-nowhere g c =
    let text = text_of g.T.IndexStorage.number c.args.text.now in
    rw c.in-Reduce.is (IfOk-weaker c.reduce.result _ _ (λ made all is. all is text) c.reduce.ensures.nowhere)
