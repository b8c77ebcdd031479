use Rattle.std.proofs.Common.{sym}
use Rattle.lrtext.proofs.FrontFacts.{some_bytes, quoted_in_front, open_quote_unfit, empty_quote_unfit}
use Rattle.lrtext.proofs.lexemes.quoted.Goals as goal

-- the second quote ends the name
pub returns-in-Some : goal.returns-in-Some
returns-in-Some c = let s = c.split_run.ensures in quoted_in_front _ _ _ _ _ c.requires (some_bytes _ (sym c.if-is_empty.ensures)) s.whole s.all c.in-Some.ensures.some

-- there is no second quote
pub returns-in-None : goal.returns-in-None
returns-in-None c = let s = c.split_run.ensures in open_quote_unfit _ _ _ _ c.requires s.whole s.all s.stops c.in-None.ensures.none

-- there is nothing between the quotes
pub returns-then-is_empty : goal.returns-then-is_empty
returns-then-is_empty c = let s = c.split_run.ensures in empty_quote_unfit _ _ _ _ c.requires s.whole s.all s.stops (sym c.if-is_empty.ensures)
