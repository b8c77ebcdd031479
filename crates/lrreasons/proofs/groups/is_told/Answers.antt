use Rattle.std.proofs.Common.{sym, ap, ◌∙◌, arith}
use Rattle.std.proofs.lemmas.List.{take_all}
use Rattle.std.proofs.lemmas.List.Folds.{list_any_at, list_any_more}
use Rattle.lrreasons.specs.StoredTexts.{are_alike}
use Rattle.lrreasons.proofs.groups.is_told.Goals as goal

pub loop-other-preserved : goal.loop-other-preserved
loop-other-preserved c =
    let test = are_alike c.args.reason.now in
    let more = list_any_more test c.args.reasons.now c.loop-other.other-index c.other-item.result c.loop-other-test.true in
    rw (more, c.loop-other.invariant, ← c.other-item.is, ← c.are_alike.ensures) c.if-are_alike.false

pub returns-then-are_alike : goal.returns-then-are_alike
returns-then-are_alike c =
    let test = are_alike c.args.reason.now in
    sym (list_any_at test c.args.reasons.now c.loop-other.other-index c.other-item.result c.loop-other-test.true (ap test (sym c.other-item.is) ∙ sym c.are_alike.ensures ∙ c.if-are_alike.true))

pub returns : goal.returns
returns c = sym (rw (take_all c.loop-other.other-index c.args.reasons.now (omega arith)) at c.loop-other.invariant)
