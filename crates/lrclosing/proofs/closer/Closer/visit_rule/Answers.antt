use Rattle.std.proofs.Common.{◌≡◌, ◌∙◌, ◌<◌, ◌++◌, length, length-set, take, drop, sym, ap, arith}
use Rattle.lrspec.specs.grammars.Grammar.{token_count}
use Rattle.lrclosing.specs.Closer.{rows_of}
use Rattle.lrclosing.specs.Leads.{AreLeadsOf, AreKeptRows, reached_of}
use Rattle.lrclosing.proofs.MarkedProductions.{below_of_bit}
use Rattle.lrclosing.proofs.ReachedPlaces.{within_taken}
use Rattle.lrclosing.proofs.RowsWritten.{read_at, written_whole}
use Rattle.lrclosing.proofs.VisitedLeads.{taken_underway}
use Rattle.lrclosing.proofs.VisitsLeft.{left_by_taking}
use Rattle.lrclosing.proofs.closer.Closer.visit_rule.Goals as goal

pub visit_leads-requires-clause-leads : goal.visit_leads-requires-clause-leads
visit_leads-requires-clause-leads c =
    let whole = c.requires.whole in
    let bit = below_of_bit c.args.self.now.todo c.args.place c.requires.todo in
    let within : c.args.place < length c.args.self.now.leads.items = omega (arith, bit, whole.todo_len, whole.leads_len) in
    rw (c.as_mut_slice.ensures.value, c.as_slice.ensures.value)
    (whole.leads c.args.place c.index.result.now (read_at c.args.self.now.leads.items c.args.place _ c.index.result.now c.index.ensures within))

pub visit_leads-requires-clause-from : goal.visit_leads-requires-clause-from
visit_leads-requires-clause-from c =
    let bit = below_of_bit c.args.self.now.todo c.args.place c.requires.todo in
    let within : c.args.place < length c.args.self.now.rows.items = omega (arith, bit, c.requires.whole.todo_len) in
    rw c.as_mut_slice.ensures.value within

pub visit_leads-requires-clause-reached : goal.visit_leads-requires-clause-reached
visit_leads-requires-clause-reached c = rw c.as_mut_slice.ensures.value c.requires.whole.reached

pub visit_leads-requires-clause-within : goal.visit_leads-requires-clause-within
visit_leads-requires-clause-within c =
    rw (c.as_mut_slice.ensures.value, c.set.ensures.after)
    (within_taken c.args.self.now.todo (reached_of c.args.self.now.rows.items) c.args.place c.requires.todo c.requires.whole.within)

pub returns : goal.returns
returns c = λ g s.
    let rows = c.args.self.now.rows in
    let new = c.visit_leads.new.rows in
    let bit = below_of_bit c.args.self.now.todo c.args.place c.requires.todo in
    let within : c.args.place < length c.args.self.now.leads.items = omega (arith, bit, s.todo_len, s.leads_len) in
    let m : AreLeadsOf g c.args.place c.as_slice.result.now =
    rw c.as_slice.ensures.value (s.leads c.args.place c.index.result.now (read_at c.args.self.now.leads.items c.args.place _ c.index.result.now c.index.ensures within)) in
    let k : AreKeptRows g c.as_mut_slice.result.now = rw c.as_mut_slice.ensures.value s.rows in
    let v = c.visit_leads.ensures.visited g m k in
    let whole : take rows.len (new ++ drop (length new) rows.items) ≡ new = written_whole rows.len rows.items new (v.rows.len ∙ sym s.rows.len) rows.ok.0 in
    record {
      is = record {
        leads_len = s.leads_len;
        leads = s.leads;
        rows = rw whole v.rows;
        reached = rw whole c.visit_leads.ensures.reached;
        within = rw whole c.visit_leads.ensures.within;
        todo_len = v.len ∙ ap length c.set.ensures.after ∙ length-set c.args.self.now.todo c.args.place _ ∙ s.todo_len;
      };
      underway = λ a u. rw whole (v.underway a (rw (c.as_mut_slice.ensures.value, c.set.ensures.after)
          (taken_underway g a c.args.place rows.items c.args.self.now.todo c.requires.todo u)));
      left =
          let most = rw (c.as_mut_slice.ensures.value, c.set.ensures.after) at v.left in
          let fewer = left_by_taking (token_count g) c.args.place (rows_of c.args.self.now) c.args.self.now.todo c.requires.todo in
          rw whole (omega (arith, most, fewer));
    }
