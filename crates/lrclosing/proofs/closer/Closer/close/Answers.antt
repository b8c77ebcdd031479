use Rattle.std.proofs.Common.{◌≡◌, ◌∙◌, ◌++◌, length, take, drop, sym, arith}
use Rattle.std.proofs.lemmas.Option.{slice_get_within}
use Rattle.lrclosing.specs.Leads.{AreKeptRows, rows_in}
use Rattle.lrclosing.specs.Visits.{IsRuleToDo}
use Rattle.lrclosing.proofs.ClosingUnderway.{end_underway}
use Rattle.lrclosing.proofs.ReachedPlaces.{none_to_do, reached_below, rule_to_do}
use Rattle.lrclosing.proofs.PutLeads.{closing_whole}
use Rattle.lrclosing.proofs.RowsReached.{length_reached}
use Rattle.lrclosing.proofs.RowsWritten.{are_rows, written_whole}
use Rattle.lrclosing.proofs.closer.Closer.close.Goals as goal

pub returns-clause-closes : goal.returns-clause-closes
returns-clause-closes g c =
    let grm = c.args.grm.now in
    let rows = c.loop-k.self.rows.items in
    let todo = c.loop-k.self.todo in
    let none = rw c.as_slice.ensures.value at c.in_default.ensures in
    record {
      shaped = are_rows grm rows c.loop-k.invariant.is.rows;
      closure = λ d w. end_underway grm _ d (rows_in rows) (IsRuleToDo grm todo) c.loop-k.invariant.underway (λ q h. none_to_do _ todo c.loop-k.self.reached c.loop-k.invariant.is.reached c.loop-k.invariant.is.within none h.0 h.2) w;
      behind = c.loop-k.invariant.underway.behind;
    }

pub visit_given-requires-clause-fits : goal.visit_given-requires-clause-fits
visit_given-requires-clause-fits g c = c.requires.fits

pub visit_given-requires-clause-clear : goal.visit_given-requires-clause-clear
visit_given-requires-clause-clear g c =
    let rs = c.args.self.now.rows in
    let new = c.clear_rows.new.rows in
    let kept : AreKeptRows c.args.grm.now c.as_mut_slice.result.now = rw c.as_mut_slice.ensures.value c.requires.is.is.rows in
    let clear = c.clear_rows.ensures.clear c.args.grm.now kept in
    let whole : take rs.len (new ++ drop (length new) rs.items) ≡ new = written_whole rs.len rs.items new (clear.are.len ∙ sym c.requires.is.is.rows.len) rs.ok.0 in
    rw whole clear

pub visit_given-requires-clause-is : goal.visit_given-requires-clause-is
visit_given-requires-clause-is g c =
    let rs = c.args.self.now.rows in
    let new = c.clear_rows.new.rows in
    let kept : AreKeptRows c.args.grm.now c.as_mut_slice.result.now = rw c.as_mut_slice.ensures.value c.requires.is.is.rows in
    let clear = c.clear_rows.ensures.clear c.args.grm.now kept in
    let whole : take rs.len (new ++ drop (length new) rs.items) ≡ new = written_whole rs.len rs.items new (clear.are.len ∙ sym c.requires.is.is.rows.len) rs.ok.0 in
    record {
      is = record {
        leads_len = c.requires.is.is.leads_len;
        leads = c.requires.is.is.leads;
        rows = rw whole clear.are;
        reached = rw whole c.clear_rows.ensures.reached;
        within = λ a h. absurd (c.requires.is.done a h);
        todo_len = c.requires.is.is.todo_len;
      };
      done = c.requires.is.done;
    }

pub loop-k-init : goal.loop-k-init
loop-k-init g c = record { is = c.visit_given.ensures.is; underway = c.visit_given.ensures.underway }

pub next_to_do-requires : goal.next_to_do-requires
next_to_do-requires g c =
    let is = c.loop-k.invariant.is in
    rw c.as_slice.ensures.value
    (reached_below _ c.loop-k.self.reached (length c.loop-k.self.todo) (length_reached c.loop-k.self.rows.items ∙ is.rows.len ∙ sym is.todo_len) is.reached)

pub overflow_add-from : goal.overflow_add-from
overflow_add-from g c =
    let place = rw c.as_slice.ensures.value at c.in-Some.ensures in
    omega (arith, slice_get_within c.loop-k.self.reached.items c.in-Some.k place.0 place.1, c.loop-k.self.reached.ok)

pub visit_rule-requires-clause-todo : goal.visit_rule-requires-clause-todo
visit_rule-requires-clause-todo g c =
    let place = rw c.as_slice.ensures.value at c.in-Some.ensures in
    rule_to_do c.loop-k.self.reached.items c.loop-k.self.todo c.in-Some.k c.index-place.result.now c.index-place.ensures place

pub visit_rule-requires-clause-whole : goal.visit_rule-requires-clause-whole
visit_rule-requires-clause-whole g c = closing_whole c.args.grm.now c.loop-k.self c.loop-k.invariant.is

pub loop-k-smaller : goal.loop-k-smaller
loop-k-smaller g c = (c.visit_rule.ensures c.args.grm.now c.loop-k.invariant.is).left

pub loop-k-preserved : goal.loop-k-preserved
loop-k-preserved g c =
    let i = c.loop-k.invariant in
    let one = c.visit_rule.ensures c.args.grm.now i.is in
    record { is = one.is; underway = one.underway _ i.underway }
