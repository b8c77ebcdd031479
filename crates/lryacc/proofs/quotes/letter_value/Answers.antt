use Rattle.std.proofs.Common.{ℕ, subst, sym, inl, inr}
use Rattle.lryacc.specs.Quotes.{IsLetterFor}
use Rattle.lryacc.specs.Quotes.IsLetterFor.{alert, backspace, backslash, carriage_return, double_quote, form_feed, line_feed, question_mark, single_quote, tab, vertical_tab}
use Rattle.lryacc.proofs.quotes.letter_value.Goals as goal

pub returns-in-97 : goal.returns-in-97
returns-in-97 c = subst (λ byte. IsLetterFor byte 7) (sym c.in-97.is) alert

pub returns-in-98 : goal.returns-in-98
returns-in-98 c = subst (λ byte. IsLetterFor byte 8) (sym c.in-98.is) backspace

pub returns-in-102 : goal.returns-in-102
returns-in-102 c = subst (λ byte. IsLetterFor byte 12) (sym c.in-102.is) form_feed

pub returns-in-110 : goal.returns-in-110
returns-in-110 c = subst (λ byte. IsLetterFor byte 10) (sym c.in-110.is) line_feed

pub returns-in-114 : goal.returns-in-114
returns-in-114 c = subst (λ byte. IsLetterFor byte 13) (sym c.in-114.is) carriage_return

pub returns-in-116 : goal.returns-in-116
returns-in-116 c = subst (λ byte. IsLetterFor byte 9) (sym c.in-116.is) tab

pub returns-in-118 : goal.returns-in-118
returns-in-118 c = subst (λ byte. IsLetterFor byte 11) (sym c.in-118.is) vertical_tab

pub returns-in-92 : goal.returns-in-92
returns-in-92 c =
    let Is : ℕ → Type 0 = λ byte. IsLetterFor byte byte in
    elim c.in-92.is [
      | inl is ↦ subst Is (sym is) double_quote
      | inr (inl is) ↦ subst Is (sym is) single_quote
      | inr (inr (inl is)) ↦ subst Is (sym is) question_mark
      | inr (inr (inr is)) ↦ subst Is (sym is) backslash
    ]
