use Rattle.std.proofs.Common.{refl, subst}
use Rattle.std.proofs.lemmas.List.Elements.{All-more}
use Rattle.lrreport.specs.declared.causes.Meeting.{Meeting}
use Rattle.lrreport.specs.Causes.{AreAlike}
use Rattle.lrreport.proofs.causes.alike.Goals as goal

pub loop-place-preserved : goal.loop-place-preserved
loop-place-preserved c =
    let P = λ (m : Meeting). AreAlike c.args.first.now.kind m.kind in
    let other = c.index-others-place.result in
    let like : P other = c.if-not-is_like.ensures.like refl in
    All-more P c.args.others.now c.loop-place.place other c.loop-place-test.true c.loop-place.invariant (subst P c.index-others-place.is like)
