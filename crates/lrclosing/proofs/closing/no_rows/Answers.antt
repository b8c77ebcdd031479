use Rattle.std.proofs.Common.{◌≡◌, length, arith}
use Rattle.lrclosing.proofs.VisitedItems.{clear_more}
use Rattle.lrclosing.proofs.closing.no_rows.Goals as goal

pub loop-preserved : goal.loop-preserved
loop-preserved g c = clear_more c.loop.rows.items c.push.new.self.items c.loop.counter c.loop.invariant c.in_ok-push.ensures.items

pub returns : goal.returns
returns g c =
    let e : c.loop.counter ≡ length c.args.grm.now.rule_names = omega (arith, c.loop-test.false, c.from-rules.ensures, c.rules_len.ensures.value) in
    rw e at c.loop.invariant
