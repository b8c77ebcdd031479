use Rattle.std.proofs.Common.{◌≡◌, ◌+◌, ◌-◌, ◌∙◌, IfSome, IsSome, Some, arith, get_or, length, refl, slice_get, subst, sym}
use Rattle.std.proofs.lemmas.Bool.{false≢true}
use Rattle.std.proofs.lemmas.Option.{get_or_from_slice_get, slice_get_within}
use Rattle.lryacc.specs.declared.dialects.Dialect.TheVariants.{Grmtools}
use Rattle.lryacc.specs.Gaps.{IsGap}
use Rattle.lryacc.proofs.HeadersFound.{brace-ends, no_Err, same_Ok, word-ends}
use Rattle.lryacc.proofs.dialects.has_header.Goals as goal

pub returns-in-Err-clause-is_not : goal.returns-in-Err-clause-is_not
returns-in-Err-clause-is_not c = λ other h.
    let text = c.args.text.now in
    let found = c.in-Ok.ensures.only refl h.start h.before (word-ends text h) in
    let start = same_Ok c.in-Ok.start h.start found in
    let long = c.in-Some.ensures.cases.2 in
    let from : h.start + 9 ≡ length text - length c.in-Some.behind.now = grind (arith, start, long) in
    let second = c.in-Err.ensures.only refl h.brace (subst (λ n. IsGap Grmtools text n h.brace) from h.between) (brace-ends text h) in
    no_Err c.in-Err.field-0 h.brace second

pub returns-in_default-matches-clause-is_not : goal.returns-in_default-matches-clause-is_not
returns-in_default-matches-clause-is_not c = λ other h.
    let text = c.args.text.now in
    let found = c.in-Ok.ensures.only refl h.start h.before (word-ends text h) in
    let start = same_Ok c.in-Ok.start h.start found in
    let long = c.in-Some.ensures.cases.2 in
    let from : h.start + 9 ≡ length text - length c.in-Some.behind.now = grind (arith, start, long) in
    let second = c.in-Ok-gap_end.ensures.only refl h.brace (subst (λ n. IsGap Grmtools text n h.brace) from h.between) (brace-ends text h) in
    let brace = same_Ok c.in-Ok-gap_end.brace h.brace second in
    let opens : slice_get text c.in-Ok-gap_end.brace ≡ Some 123 = subst (λ n. slice_get text n ≡ Some 123) (sym brace) h.opens in
    let got = c.get.ensures.lookup in
    let place = c.in-Ok-gap_end.brace in
    let byte = subst (λ found. IfSome found (λ x. x.now ≡ get_or text place x.now)) c.in_default-matches.is got.1 in
    let is_brace : c.in_default-matches.field-0.now ≡ 123 = byte ∙ get_or_from_slice_get text place 123 _ opens in
    let test = c.in_default-matches.field-0-test.1 in
    let same = c.in_default-matches.field-0-is in
    grind (arith, test, same, is_brace)

pub returns-in_default-matches-2-clause-is_not : goal.returns-in_default-matches-2-clause-is_not
returns-in_default-matches-2-clause-is_not c = λ other h.
    let text = c.args.text.now in
    let found = c.in-Ok.ensures.only refl h.start h.before (word-ends text h) in
    let start = same_Ok c.in-Ok.start h.start found in
    let long = c.in-Some.ensures.cases.2 in
    let from : h.start + 9 ≡ length text - length c.in-Some.behind.now = grind (arith, start, long) in
    let second = c.in-Ok-gap_end.ensures.only refl h.brace (subst (λ n. IsGap Grmtools text n h.brace) from h.between) (brace-ends text h) in
    let brace = same_Ok c.in-Ok-gap_end.brace h.brace second in
    let opens : slice_get text c.in-Ok-gap_end.brace ≡ Some 123 = subst (λ n. slice_get text n ≡ Some 123) (sym brace) h.opens in
    let got = c.get.ensures.lookup in
    false≢true (subst (λ found. IsSome found) c.in_default-matches.is (got.2 (slice_get_within text c.in-Ok-gap_end.brace 123 opens)))
