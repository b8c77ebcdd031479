use Rattle.std.proofs.Common.{◌≡◌, refl}
use Rattle.lrclosing.proofs.RowsWritten.{pushed_len}
use Rattle.lrclosing.proofs.LeadsOfRule.{by_rule_next}
use Rattle.lrclosing.proofs.closer.leads_by_rule.Goals as goal

pub loop-place-init : goal.loop-place-init
loop-place-init g c = record { len = rw c.in_ok-leads.ensures.items refl; leads = rw c.in_ok-leads.ensures.items (λ a v h. cc) }

pub loop-place-preserved : goal.loop-place-preserved
loop-place-preserved g c =
    let number = g.T.IndexStorage.number in
    let e : number c.unwrap.result ≡ c.loop-place.place = (rw c.unwrap.ensures at c.from_usize.ensures).1 in
    record {
      len = pushed_len c.loop-place.leads.items c.push.new.self.items _ c.loop-place.place c.in_ok-push.ensures.items c.loop-place.invariant.len;
      leads = by_rule_next c.args.grm.now c.loop-place.place c.loop-place.leads.items c.push.new.self.items _ c.loop-place.invariant.leads c.loop-place.invariant.len
          c.in_ok-push.ensures.items (rw e at c.in_ok-leads_of.ensures);
    }
