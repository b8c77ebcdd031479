use Rattle.lrtext.proofs.FrontFacts.{line_in_front, block_in_front, open_block_unfit}
use Rattle.lrtext.proofs.lexemes.comment.Goals as goal

-- a line comment
pub returns-in-Some : goal.returns-in-Some
returns-in-Some c = let s = c.split_run.ensures in line_in_front _ _ _ _ c.in-Some.ensures.some s.whole s.all s.stops

-- a comment that is closed is a gap
pub returns-in-Some-split_once : goal.returns-in-Some-split_once
returns-in-Some-split_once c = let h = c.in-Some-split_once.ensures.cases in block_in_front _ _ _ h.0 h.1 c.in-Some-behind_byte.ensures.some h.2 h.4

-- a comment that is never closed fits nothing
pub returns-in-None : goal.returns-in-None
returns-in-None c = open_block_unfit _ _ c.in-Some-behind_byte.ensures.some c.in-None.ensures.cases
