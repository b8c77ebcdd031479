-- the last end
use Rattle.lrshown.proofs.Rows.{last_end}
use Rattle.lrshown.proofs.trees.Tree.end.Goals as goal

pub returns : goal.returns
returns c = λ ts e. rw (c.unwrap_or.ensures, c.copied.ensures, c.last.ensures.value, c.deref.ensures.value, e) (last_end ts)
