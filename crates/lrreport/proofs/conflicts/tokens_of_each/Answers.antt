use Rattle.std.proofs.Common.{◌≡◌, Some, subst}
use Rattle.std.proofs.lemmas.List.{take_all}
use Rattle.std.proofs.lemmas.List.Elements.{All-more}
use Rattle.lrshown.specs.declared.evidence.Evidence.{Evidence}
use Rattle.lrshown.specs.DecidedEntries.{tokens_of}
use Rattle.lrreport.proofs.conflicts.tokens_of_each.Goals as goal

pub loop-evidence-preserved : goal.loop-evidence-preserved
loop-evidence-preserved c =
    let Decided = λ (e : Evidence). tokens_of e ≡ Some c.in_ok-tokens.tokens in
    All-more Decided c.args.meeting.now c.loop-evidence.evidence-index c.evidence-item.result c.loop-evidence-test.true c.loop-evidence.invariant
    (subst Decided c.evidence-item.is (c.is_decided_by.ensures c.if-not-is_decided_by.false))

pub returns : goal.returns
returns c = rw (take_all c.loop-evidence.evidence-index c.args.meeting.now c.loop-evidence-test.false) at c.loop-evidence.invariant
