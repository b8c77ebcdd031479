use Rattle.std.proofs.Common.{refl, subst}
use Rattle.std.proofs.lemmas.List.Elements.{All-more}
use Rattle.lrverdicts.specs.Listed.{MeetsLike}
use Rattle.lrshown.specs.declared.evidence.Evidence.{Evidence}
use Rattle.lrreport.proofs.causes.together.Goals as goal

pub loop-place-preserved : goal.loop-place-preserved
loop-place-preserved c =
    let P = λ (e : Evidence). MeetsLike c.args.first.now.entry e.entry in
    let other = c.index-others-place.result in
    let like : P other = c.if-not-meets_like.ensures.like refl in
    All-more P c.args.others.now c.loop-place.place other c.loop-place-test.true c.loop-place.invariant (subst P c.index-others-place.is like)
