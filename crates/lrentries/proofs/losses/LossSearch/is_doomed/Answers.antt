-- by the tokens of its numbers
use Rattle.std.proofs.Common.{◌≡◌, ◌+◌, ap, ◌∙◌, subst}
use Rattle.lrtable.specs.RunAnswers.{text_of}
use Rattle.lrgrammar.specs.Symbols.{number_of}
use Rattle.lrcharts.specs.Ways.{HasNoTreeLeft}
use Rattle.lrentries.proofs.losses.LossSearch.is_doomed.Goals as goal

pub returns : goal.returns
returns c = λ known.
    let g = c.self.inside.found.now.grm in
    let b = c.self.inside.found.now.table in
    let loss = c.args.loss.now in
    let numbers : text_of number_of c.in-Some-2.tokens.items ≡ loss.tokens.items = (rw c.in-Some-2.is at c.in_ok-tokens.ensures) ∙ c.as_slice.ensures.value in
    let text = ap (text_of number_of) c.as_slice-2.ensures.value ∙ numbers in
    let steps : c.in-Some.steps ≡ loss.made + 1 = c.in-Some.ensures.1 in
    rw (← c.self.view_is) (subst (λ n. HasNoTreeLeft g b loss.tokens.items n) steps
    (subst (λ t. HasNoTreeLeft g b t c.in-Some.steps) text (c.in_ok-is_known.ensures known)))
