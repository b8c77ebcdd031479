use Rattle.std.proofs.Common.{◌≡◌, ◌∙◌, length, false, ap, arith}
use Rattle.std.proofs.lemmas.List.{length-replicate}
use Rattle.lrclosing.specs.Leads.{reached_of}
use Rattle.lrclosing.proofs.ReachedPlaces.{reached_none}
use Rattle.lrclosing.proofs.RowsReached.{length_reached, no_bits}
use Rattle.lrclosing.proofs.VisitedItems.{clear_bits}
use Rattle.lrclosing.proofs.closer.Closer.new.Goals as goal

pub returns : goal.returns
returns g c =
    let n = c.from-rules.result in
    let rs = c.in_ok-rows.rows.items in
    let rules : n ≡ length c.args.grm.now.rule_names = c.from-rules.ensures ∙ c.rules_len.ensures.value in
    record {
      is = record {
        leads_len = c.in_ok-leads.ensures.len;
        leads = c.in_ok-leads.ensures.leads;
        rows = c.in_ok-rows.ensures.are;
        reached = reached_none (reached_of rs) c.in_ok-reached.reached (no_bits rs c.in_ok-rows.ensures.clear) c.in_ok-reached.ensures.items
            (omega (arith, length_reached rs, rules, c.in_ok-rows.ensures.are.len, c.in_ok-reached.ensures.capacity));
        within = λ a h. absurd (clear_bits n a (rw c.in_ok-todo.ensures.bits at h));
        todo_len = ap length c.in_ok-todo.ensures.bits ∙ length-replicate n false ∙ rules;
      };
      done = λ i h. clear_bits n i (rw c.in_ok-todo.ensures.bits at h);
    }
