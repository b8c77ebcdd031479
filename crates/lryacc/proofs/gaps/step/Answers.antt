use Rattle.std.proofs.Common.{◌≡◌, true, rules, ℕ, ◌+◌, sym, arith, subst, IfSome}
use Rattle.lryacc.specs.declared.gaps.Within.TheVariants as within
use Rattle.lryacc.specs.GapsRead.{BeginsGap, IsGapUpTo, IsLeft}
use Rattle.lryacc.proofs.GapEnds.{begins, given-none, second, star}
use Rattle.lryacc.proofs.GapsByBytes.{block-ends, gap-begins, line-ends}
use Rattle.lryacc.proofs.gaps.step.Goals as goal

pub returns-in-Gap-clause-on : goal.returns-in-Gap-clause-on
returns-in-Gap-clause-on c =
    subst (λ within. IfSome c.begun.result (λ next. (from : ℕ) → IsGapUpTo c.args.dialect c.args.text.now from c.args.at within
    → IsGapUpTo c.args.dialect c.args.text.now from (c.args.at + 1) next)) (sym c.in-Gap.is)
    (gap-begins c.args.dialect c.args.text.now c.args.at c.begun.result c.begun.ensures.begins)

pub returns-in-Line-clause-on : goal.returns-in-Line-clause-on
returns-in-Line-clause-on c = λ from up.
    line-ends c.args.dialect c.args.text.now from c.args.at
    (subst (IsGapUpTo c.args.dialect c.args.text.now from c.args.at) c.in-Line.is up) (omega arith) c.if-byte-eq10.true

pub returns-in-Block-default-true-clause-on : goal.returns-in-Block-default-true-clause-on
returns-in-Block-default-true-clause-on c = λ from up.
    let h1 = c.in-Block-default-true.field-1-is in
    let h2 = c.in-Block-default-true.field-1-test in
    let is : c.args.within ≡ within.Block c.in-Block-default-true.field-0 true = search rules in
    block-ends c.args.dialect c.args.text.now from c.args.at c.in-Block-default-true.field-0
    (subst (IsGapUpTo c.args.dialect c.args.text.now from c.args.at) is up) c.if-byte-eq47-2.true

pub returns-in-Gap-clause-left : goal.returns-in-Gap-clause-left
returns-in-Gap-clause-left c = λ is end ends left.
    let some = subst (λ dialect. IfSome c.begun.result (BeginsGap dialect c.args.text.now c.args.at)) is c.begun.ensures.begins in
    let none = given-none _ _ c.begun.result is c.begun.ensures.no_gap in
    begins c.args.text.now end c.args.at c.requires ends c.begun.result some none (subst (IsLeft c.args.text.now end c.args.at) c.in-Gap.is left)

pub returns-in-Slash-clause-left : goal.returns-in-Slash-clause-left
returns-in-Slash-clause-left c = λ is end ends left.
    let here = subst (IsLeft c.args.text.now end c.args.at) c.in-Slash.is left in
    second c.args.text.now end c.args.at c.requires ends c.in-Slash.field-0 here.0 here.1 c.if-byte-eq47.true here.2

pub returns-in-Slash-2-clause-left : goal.returns-in-Slash-2-clause-left
returns-in-Slash-2-clause-left c = λ is end ends left.
    let here = subst (IsLeft c.args.text.now end c.args.at) c.in-Slash-2.is left in
    star c.args.text.now end c.args.at c.requires ends c.in-Slash-2.opened here.0 here.1 c.if-byte-eq42.true here.2
