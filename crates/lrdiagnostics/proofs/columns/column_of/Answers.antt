use Rattle.lrdiagnostics.proofs.CountedTexts.{ends, goes_on}
use Rattle.lrdiagnostics.proofs.columns.column_of.Goals as goal

pub returns-in_default : goal.returns-in_default
returns-in_default c =
    rw c.column_behind-column.ensures (c.loop-others.invariant _ (ends _ _ _ _ c.split_text.ensures.whole c.split_text.ensures.utf8 c.in_default.len_below))

pub loop-others-preserved : goal.loop-others-preserved
loop-others-preserved c behind e =
    c.loop-others.invariant behind (goes_on _ _ _ _ c.split_text.ensures.whole c.split_text.ensures.utf8 behind c.split_text.ensures.stray c.in-len1-up.len_at_least
    (rw (c.saturating_add-column.ensures, c.column_behind-column.ensures) at e))
