use Rattle.std.proofs.Common.{refl, ◌∙◌}
use Rattle.lrclosing.proofs.VisitedItems.{clear_rows, clear_bits, shaped_clear}
use Rattle.lrclosing.proofs.closing.no_closing.Goals as goal

pub returns-clause-shaped : goal.returns-clause-shaped
returns-clause-shaped g c =
    shaped_clear c.args.grm.now _ c.from.result _ _ c.in_ok-rows.ensures c.in_ok-todo.ensures.bits refl (c.from.ensures ∙ c.prods_len.ensures.value)

pub returns-clause-rows : goal.returns-clause-rows
returns-clause-rows g c = λ r. rw c.in_ok-rows.ensures (clear_rows _ r)

pub returns-clause-todo : goal.returns-clause-todo
returns-clause-todo g c = rw c.in_ok-todo.ensures.bits (clear_bits c.from.result)
