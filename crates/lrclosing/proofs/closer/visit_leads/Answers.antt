use Rattle.std.proofs.Common.{◌≡◌, ◌<◌, ◌∙◌, Some, length, refl, sym, arith}
use Rattle.std.specs.Prelude.{slice_get}
use Rattle.std.proofs.lemmas.Option.{slice_get_read}
use Rattle.lrclosing.specs.Leads.{IsLeadFor, reached_of}
use Rattle.lrclosing.proofs.PutLeads.{lead_here, led_length, lead_for_led}
use Rattle.lrclosing.proofs.ReachedPlaces.{bit_of_row, reached_more, reached_room, within_set_if, set_if_true, set_if_false}
use Rattle.lrclosing.proofs.RowsReached.{length_reached, reached_led}
use Rattle.lrclosing.proofs.VisitedLeads.{IsSetIf, set_if, set_not, set_len, leads_start, leads_step, leads_end}
use Rattle.lrclosing.proofs.closer.visit_leads.Goals as goal
use Rattle.lrclosing.proofs.closer.visit_leads.Goals.{then-put_lead, else-put_lead}

pub loop-lead-init : goal.loop-lead-init
loop-lead-init c = record {
  leads = c.requires.leads;
  len = c.requires.todo;
  visited = λ g m k. leads_start g c.args.from c.args.leads.now c.args.rows.now c.args.todo.now m k;
  reached = c.requires.reached;
  within = c.requires.within;
}

pub put_lead-requires-clause-lead : goal.put_lead-requires-clause-lead
put_lead-requires-clause-lead c =
    lead_here c.loop-lead.rows c.args.leads.now c.loop-lead.lead-index c.lead-item.result c.lead-item.is c.loop-lead-test.true c.loop-lead.invariant.leads

pub set-requires : goal.set-requires
set-requires c =
    let h = lead_here c.loop-lead.rows c.args.leads.now c.loop-lead.lead-index c.lead-item.result c.lead-item.is c.loop-lead-test.true c.loop-lead.invariant.leads in
    omega (arith, h.rule, c.loop-lead.invariant.len)

pub loop-lead-preserved : goal.loop-lead-preserved
loop-lead-preserved c =
    let i = c.loop-lead.lead-index in
    let l = c.lead-item.result in
    let rows = c.loop-lead.rows in
    let led = c.put_lead.ensures in
    let h : IsLeadFor rows l = lead_here rows c.args.leads.now i l c.lead-item.is c.loop-lead-test.true c.loop-lead.invariant.leads in
    let set : IsSetIf c.put_lead.result l.rule c.loop-lead.todo c.if-put_lead.todo = elim c.if-put_lead.branch [
      | then-put_lead w ↦ set_if c.put_lead.result l.rule c.loop-lead.todo c.if-put_lead.todo w.if-put_lead.true (w.todo-is ∙ w.set.ensures.after)
      | else-put_lead w ↦ set_not c.put_lead.result l.rule c.loop-lead.todo c.if-put_lead.todo w.if-put_lead.false w.todo-is
    ] in
    let bits = reached_of rows in
    let below : l.rule < length bits = omega (arith, h.rule, length_reached rows) in
    let put = reached_led l c.args.from c.put_lead.result rows c.put_lead.new.rows led in
    record {
      leads = λ j d t. lead_for_led l _ c.args.from c.put_lead.result rows c.put_lead.new.rows led (c.loop-lead.invariant.leads j d t);
      len = set_len c.put_lead.result l.rule c.loop-lead.todo c.if-put_lead.todo set ∙ c.loop-lead.invariant.len
          ∙ sym (led_length l c.args.from c.put_lead.result rows c.put_lead.new.rows led);
      visited = λ g m k.
          let v = c.loop-lead.invariant.visited g m k in
          let at : slice_get c.args.leads.now i ≡ Some l = slice_get_read c.args.leads.now (length c.args.leads.now) i l refl c.loop-lead-test.true c.lead-item.is in
          let q = m.each i l at in
          leads_step g c.args.from i q.0 c.args.leads.now l c.put_lead.result c.args.rows.now rows c.put_lead.new.rows c.args.todo.now c.loop-lead.todo
          c.if-put_lead.todo v (v.len ∙ c.requires.todo ∙ k.len) at q.1 led set;
      reached = elim c.if-put_lead.branch [
        | then-put_lead w ↦
            rw (w.reached-is, set_if_true c.put_lead.result l.rule bits _ w.if-put_lead.true put)
            (reached_more _ bits l.rule c.loop-lead.reached w.reach.new.reached c.loop-lead.invariant.reached below (bit_of_row rows l.rule _ h.rule)
            w.reach.ensures.items w.reach.ensures.capacity)
        | else-put_lead w ↦ rw (w.reached-is, set_if_false c.put_lead.result l.rule bits _ w.if-put_lead.false put) c.loop-lead.invariant.reached
      ];
      within = within_set_if c.put_lead.result c.loop-lead.todo c.if-put_lead.todo bits _ l.rule below set put c.loop-lead.invariant.within;
    }

pub returns-clause-visited : goal.returns-clause-visited
returns-clause-visited c = λ g m k.
    leads_end g c.args.from c.loop-lead.lead-index c.args.leads.now c.args.rows.now c.loop-lead.rows c.args.todo.now c.loop-lead.todo c.loop-lead-test.false
    (c.loop-lead.invariant.visited g m k)

pub reach-requires : goal.reach-requires
reach-requires c = λ e.
    let rows = c.loop-lead.rows in
    let h = lead_here rows c.args.leads.now c.loop-lead.lead-index c.lead-item.result c.lead-item.is c.loop-lead-test.true c.loop-lead.invariant.leads in
    reached_room (reached_of rows) c.lead-item.result.rule c.loop-lead.reached c.loop-lead.invariant.reached (omega (arith, h.rule, length_reached rows))
    (bit_of_row rows c.lead-item.result.rule _ h.rule ∙ e)
