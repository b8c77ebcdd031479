use Rattle.lrclosing.proofs.closing.close_counted.Goals as goal

pub returns-clause-closure : goal.returns-clause-closure
returns-clause-closure g c = c.in_ok-rows.ensures.rows.closure _ (rw c.as_slice.ensures.value at c.in_ok-closed.ensures.rows)
