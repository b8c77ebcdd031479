use Rattle.std.proofs.Common.{subst}
use Rattle.std.proofs.lemmas.List.{take_all}
use Rattle.std.proofs.lemmas.List.Elements.{All-more}
use Rattle.std.specs.Prelude.{IsSome}
use Rattle.lrshown.specs.declared.evidence.Evidence.{Evidence}
use Rattle.lrreport.proofs.notes.have_sentences.Goals as goal

pub loop-evidence-preserved : goal.loop-evidence-preserved
loop-evidence-preserved c =
    let HasSentence = λ (e : Evidence). IsSome e.ambiguity in
    All-more HasSentence c.args.meeting.now c.loop-evidence.evidence-index c.evidence-item.result c.loop-evidence-test.true c.loop-evidence.invariant
    (subst HasSentence c.evidence-item.is (c.has_own_sentence.ensures.known c.if-not-has_own_sentence.false))

pub returns : goal.returns
returns c = λ told. rw (take_all c.loop-evidence.evidence-index c.args.meeting.now c.loop-evidence-test.false) at c.loop-evidence.invariant
