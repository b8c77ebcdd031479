use Rattle.std.proofs.Common.{subst, sym}
use Rattle.lryacc.specs.Quotes.{IsLetterFor}
use Rattle.lryacc.specs.Quotes.IsLetterFor.{alert, backspace, backslash, carriage_return, form_feed, line_feed, single_quote, tab, vertical_tab}
use Rattle.lryacc.proofs.names.letter_for.Goals as goal

pub returns-in-7 : goal.returns-in-7
returns-in-7 c = subst (IsLetterFor 97) (sym c.in-7.is) alert

pub returns-in-8 : goal.returns-in-8
returns-in-8 c = subst (IsLetterFor 98) (sym c.in-8.is) backspace

pub returns-in-9 : goal.returns-in-9
returns-in-9 c = subst (IsLetterFor 116) (sym c.in-9.is) tab

pub returns-in-10 : goal.returns-in-10
returns-in-10 c = subst (IsLetterFor 110) (sym c.in-10.is) line_feed

pub returns-in-11 : goal.returns-in-11
returns-in-11 c = subst (IsLetterFor 118) (sym c.in-11.is) vertical_tab

pub returns-in-12 : goal.returns-in-12
returns-in-12 c = subst (IsLetterFor 102) (sym c.in-12.is) form_feed

pub returns-in-13 : goal.returns-in-13
returns-in-13 c = subst (IsLetterFor 114) (sym c.in-13.is) carriage_return

pub returns-in-39 : goal.returns-in-39
returns-in-39 c = subst (IsLetterFor 39) (sym c.in-39.is) single_quote

pub returns-in-92 : goal.returns-in-92
returns-in-92 c = subst (IsLetterFor 92) (sym c.in-92.is) backslash
