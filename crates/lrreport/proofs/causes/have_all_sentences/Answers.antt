use Rattle.std.proofs.Common.{List, Bor, subst}
use Rattle.std.proofs.lemmas.List.{take_all}
use Rattle.std.proofs.lemmas.List.Elements.{All-more}
use Rattle.std.specs.List.{All}
use Rattle.std.specs.Prelude.{IsSome}
use Rattle.lrshown.specs.declared.evidence.Evidence.{Evidence}
use Rattle.lrreport.proofs.causes.have_all_sentences.Goals as goal

pub loop-meeting-preserved : goal.loop-meeting-preserved
loop-meeting-preserved c =
    let HaveSentences = λ (m : Bor (List Evidence)). All (λ e. IsSome e.ambiguity) m.now in
    All-more HaveSentences c.args.meetings.now c.loop-meeting.meeting-index c.meeting-item.result c.loop-meeting-test.true c.loop-meeting.invariant
    (subst HaveSentences c.meeting-item.is (c.have_sentences.ensures c.if-not-have_sentences.false))

pub returns : goal.returns
returns c = λ told. rw (take_all c.loop-meeting.meeting-index c.args.meetings.now c.loop-meeting-test.false) at c.loop-meeting.invariant
