use Rattle.std.proofs.Common.{subst}
use Rattle.std.proofs.lemmas.List.{take_all}
use Rattle.std.proofs.lemmas.List.Elements.{All-more}
use Rattle.std.specs.Prelude.{IsSome}
use Rattle.lrshown.specs.declared.evidence.Evidence.{Evidence}
use Rattle.lrreport.proofs.conflicts.are_decided.Goals as goal

pub loop-evidence-preserved : goal.loop-evidence-preserved
loop-evidence-preserved c =
    let Decided = λ (e : Evidence). IsSome e.decided in
    All-more Decided c.args.meeting.now c.loop-evidence.evidence-index c.evidence-item.result c.loop-evidence-test.true c.loop-evidence.invariant
    (subst Decided c.evidence-item.is (c.is_decided.ensures.decided c.if-not-is_decided.false))

pub returns : goal.returns
returns c = λ told. rw (take_all c.loop-evidence.evidence-index c.args.meeting.now c.loop-evidence-test.false) at c.loop-evidence.invariant
