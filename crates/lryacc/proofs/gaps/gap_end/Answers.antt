use Rattle.std.proofs.Common.{◌≡◌, ℕ, ◌+◌, IfSome, Ok, length, subst, inl, inr, arith}
use Rattle.lryacc.specs.Gaps.IsGap.{nothing}
use Rattle.lryacc.specs.GapsRead.{IsGapUpTo, IsLeft, IsLeftBehind}
use Rattle.lryacc.proofs.GapEnds.{gap-before, left-behind}
use Rattle.lryacc.proofs.GapsByBytes.{line-at_end}
use Rattle.lryacc.proofs.gaps.gap_end.Goals as goal

pub loop-at-init : goal.loop-at-init
loop-at-init c = record { up = nothing; left = λ is end gap ends. gap-before gap }

pub loop-at-preserved : goal.loop-at-preserved
loop-at-preserved c =
    let on = subst (λ found. IfSome found (λ next. (from : ℕ)
    → IsGapUpTo c.args.dialect c.args.text.now from c.loop-at.at c.loop-at.within
    → IsGapUpTo c.args.dialect c.args.text.now from (c.loop-at.at + 1) next)) c.in-Some.is c.in_ok-next.ensures.on in
    record {
      up = on c.args.from c.loop-at.invariant.up;
      left = λ is end gap ends.
          subst (λ found. IsLeftBehind c.args.text.now end c.loop-at.at (Ok found)) c.in-Some.is
          (c.in_ok-next.ensures.left is end ends (c.loop-at.invariant.left is end gap ends));
    }

pub returns-in-Gap-clause-gap : goal.returns-in-Gap-clause-gap
returns-in-Gap-clause-gap c =
    let end : c.loop-at.at ≡ length c.args.text.now = omega arith in
    let at_end = subst (λ at. IsGapUpTo c.args.dialect c.args.text.now c.args.from at c.loop-at.within) end c.loop-at.invariant.up in
    elim c.in-Gap.is [
      | inl gap ↦ subst (IsGapUpTo c.args.dialect c.args.text.now c.args.from (length c.args.text.now)) gap at_end
      | inr in_line ↦ line-at_end c.args.dialect c.args.text.now c.args.from
          (subst (IsGapUpTo c.args.dialect c.args.text.now c.args.from (length c.args.text.now)) in_line at_end)
    ]

pub returns-in-Slash-clause-only : goal.returns-in-Slash-clause-only
returns-in-Slash-clause-only c = λ is end gap ends.
    let at_end : c.loop-at.at ≡ length c.args.text.now = omega arith in
    let left = subst (λ at. IsLeft c.args.text.now end at c.loop-at.within) at_end (c.loop-at.invariant.left is end gap ends) in
    absurd (left-behind c.args.text.now end c.loop-at.within ends left)

pub returns-in-Block-clause-only : goal.returns-in-Block-clause-only
returns-in-Block-clause-only c = λ is end gap ends.
    let at_end : c.loop-at.at ≡ length c.args.text.now = omega arith in
    let left = subst (λ at. IsLeft c.args.text.now end at c.loop-at.within) at_end (c.loop-at.invariant.left is end gap ends) in
    absurd (left-behind c.args.text.now end c.loop-at.within ends left)

pub returns-in-Gap-clause-only : goal.returns-in-Gap-clause-only
returns-in-Gap-clause-only c = λ is end gap ends.
    let at_end : c.loop-at.at ≡ length c.args.text.now = omega arith in
    let left = subst (λ at. IsLeft c.args.text.now end at c.loop-at.within) at_end (c.loop-at.invariant.left is end gap ends) in
    absurd (left-behind c.args.text.now end c.loop-at.within ends left)
