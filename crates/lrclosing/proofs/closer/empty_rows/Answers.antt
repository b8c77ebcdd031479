use Rattle.std.proofs.Common.{◌≡◌, false, refl}
use Rattle.lrclosing.specs.Leads.{IsRow}
use Rattle.lrclosing.proofs.RowsWritten.{row_not_reached, rows_more, pushed_len}
use Rattle.lrclosing.proofs.closer.empty_rows.Goals as goal

pub loop-preserved : goal.loop-preserved
loop-preserved g c = record {
  len = pushed_len c.loop.rows.items c.push.new.self.items _ c.loop.counter c.in_ok-push.ensures.items c.loop.invariant.len;
  each = rows_more (IsRow c.args.grm.now) c.loop.rows.items c.push.new.self.items _ c.loop.invariant.each c.in_ok-push.ensures.items
      (row_not_reached c.args.grm.now c.in_ok-no_tokens.field-0 c.in_ok-no_tokens.ensures);
  clear = rows_more (λ r. r.is_reached ≡ false) c.loop.rows.items c.push.new.self.items _ c.loop.invariant.clear c.in_ok-push.ensures.items refl;
}
