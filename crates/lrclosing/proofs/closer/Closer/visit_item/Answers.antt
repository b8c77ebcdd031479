use Rattle.std.proofs.Common.{◌≡◌, ◌+◌, ◌<◌, ◌∙◌, length, length-set, ap, refl, arith}
use Rattle.lrspec.specs.grammars.Grammar.{body_of}
use Rattle.lrspec.proofs.grammars.BodyFacts.{below_of_drop, symbol_at_dot}
use Rattle.lrclosing.specs.Leads.{reached_of}
use Rattle.lrclosing.proofs.ReachedPlaces.{reached_more, reached_room, within_set}
use Rattle.lrclosing.proofs.RowsReached.{bit_reached, length_reached, reached_set}
use Rattle.lrclosing.proofs.RowsWritten.{read_at, kept_written, row_is_reached}
use Rattle.lrclosing.proofs.VisitedItems.{visited_nothing}
use Rattle.lrclosing.proofs.VisitedLeads.{visited_given}
use Rattle.lrclosing.proofs.closer.Closer.visit_item.Goals as goal

pub index_mut-requires : goal.index_mut-requires
index_mut-requires g c =
    let number = g.T.IndexStorage.number in
    let below = (symbol_at_dot c.in-Some.ensures.shape (number c.args.pidx.0) (number c.args.dot.0) _ c.in-Some.ensures.found).1 in
    omega (arith, below, c.from-place.ensures, c.requires.is.rows.len, c.args.self.now.rows.ok)

pub put_ahead-requires-clause-place : goal.put_ahead-requires-clause-place
put_ahead-requires-clause-place g c =
    let before = c.in-Some.ensures.found in
    let below = below_of_drop (body_of c.args.grm.now (g.T.IndexStorage.number c.args.pidx.0)) (g.T.IndexStorage.number c.args.dot.0) _ before.0 before.1 in
    omega (arith, below, c.to_usize.ensures.number)

pub put_ahead-requires-clause-row : goal.put_ahead-requires-clause-row
put_ahead-requires-clause-row g c =
    let number = g.T.IndexStorage.number in
    let below = (symbol_at_dot c.in-Some.ensures.shape (number c.args.pidx.0) (number c.args.dot.0) _ c.in-Some.ensures.found).1 in
    let within : c.from-place.result < length c.args.self.now.rows.items = omega (arith, below, c.from-place.ensures, c.requires.is.rows.len) in
    c.requires.is.rows.each c.from-place.result c.index_mut.result.now
    (read_at c.args.self.now.rows.items c.from-place.result _ c.index_mut.result.now c.index_mut.ensures.value within)

pub set-requires : goal.set-requires
set-requires g c =
    let number = g.T.IndexStorage.number in
    let below = (symbol_at_dot c.in-Some.ensures.shape (number c.args.pidx.0) (number c.args.dot.0) _ c.in-Some.ensures.found).1 in
    omega (arith, below, c.from-place.ensures, c.requires.is.todo_len)

pub returns-in-Some-clause-is : goal.returns-in-Some-clause-is
returns-in-Some-clause-is g c = record {
  leads_len = c.requires.is.leads_len;
  leads = c.requires.is.leads;
  rows = kept_written c.args.grm.now c.args.self.now.rows.items _ c.from-place.result c.put_ahead.new.row c.requires.is.rows
      (row_is_reached c.args.grm.now c.put_ahead.new.row c.put_ahead.ensures.passed.len c.put_ahead.ensures.reached) refl;
  reached =
      let i = c.from-place.result in
      let rs = c.args.self.now.rows.items in
      let below = (symbol_at_dot c.in-Some.ensures.shape (g.T.IndexStorage.number c.args.pidx.0) (g.T.IndexStorage.number c.args.dot.0) _ c.in-Some.ensures.found).1 in
      let here : i < length rs = omega (arith, below, c.from-place.ensures, c.requires.is.rows.len) in
      let is = bit_reached rs i c.index.result.now (read_at rs i _ c.index.result.now c.index.ensures here) in
      rw (reached_set rs i c.put_ahead.new.row c.put_ahead.ensures.reached)
      (reached_more _ (reached_of rs) i c.args.self.now.reached c.reach.new.reached c.requires.is.reached (omega (arith, here, length_reached rs)) is
      c.reach.ensures.items c.reach.ensures.capacity);
  within =
      let i = c.from-place.result in
      let rs = c.args.self.now.rows.items in
      let below = (symbol_at_dot c.in-Some.ensures.shape (g.T.IndexStorage.number c.args.pidx.0) (g.T.IndexStorage.number c.args.dot.0) _ c.in-Some.ensures.found).1 in
      let bits : i < length (reached_of rs) = omega (arith, below, c.from-place.ensures, c.requires.is.rows.len, length_reached rs) in
      rw (reached_set rs i c.put_ahead.new.row c.put_ahead.ensures.reached, c.set.ensures.after) (within_set c.args.self.now.todo (reached_of rs) i bits c.requires.is.within);
  todo_len = ap length c.set.ensures.after ∙ length-set c.args.self.now.todo c.from-place.result _ ∙ c.requires.is.todo_len;
}

pub returns-in-Some-clause-visited : goal.returns-in-Some-clause-visited
returns-in-Some-clause-visited g c =
    let number = g.T.IndexStorage.number in
    let p = number c.args.pidx.0 in
    let d = number c.args.dot.0 in
    let i = c.from-place.result in
    let below = (symbol_at_dot c.in-Some.ensures.shape p d _ c.in-Some.ensures.found).1 in
    let within : i < length c.args.self.now.rows.items = omega (arith, below, c.from-place.ensures, c.requires.is.rows.len) in
    let bits : i < length c.args.self.now.todo = omega (arith, below, c.from-place.ensures, c.requires.is.todo_len) in
    let e : c.to_usize.result + 1 ≡ d + 1 = omega (arith, c.to_usize.ensures.number) in
    visited_given c.args.grm.now p d (number c.in-Some.rule.0) (c.to_usize.result + 1) i c.args.ctx.now c.args.self.now.rows.items c.index_mut.result.now c.put_ahead.new.row
    c.args.self.now.todo c.set.new.self c.in-Some.ensures.found e c.from-place.ensures
    (read_at c.args.self.now.rows.items i _ c.index_mut.result.now c.index_mut.ensures.value within) c.put_ahead.ensures.passed c.put_ahead.ensures.reached bits
    c.set.ensures.after

pub returns-in_default-clause-visited : goal.returns-in_default-clause-visited
returns-in_default-clause-visited g c = visited_nothing _ _ _ _ _ _ c.in_default.ensures.none

pub reach-requires : goal.reach-requires
reach-requires g c = λ e.
    let i = c.from-place.result in
    let rs = c.args.self.now.rows.items in
    let below = (symbol_at_dot c.in-Some.ensures.shape (g.T.IndexStorage.number c.args.pidx.0) (g.T.IndexStorage.number c.args.dot.0) _ c.in-Some.ensures.found).1 in
    let here : i < length rs = omega (arith, below, c.from-place.ensures, c.requires.is.rows.len) in
    reached_room (reached_of rs) i c.args.self.now.reached c.requires.is.reached (omega (arith, here, length_reached rs))
    (bit_reached rs i c.index.result.now (read_at rs i _ c.index.result.now c.index.ensures here) ∙ e)

pub index-requires : goal.index-requires
index-requires g c =
    let below = (symbol_at_dot c.in-Some.ensures.shape (g.T.IndexStorage.number c.args.pidx.0) (g.T.IndexStorage.number c.args.dot.0) _ c.in-Some.ensures.found).1 in
    omega (arith, below, c.from-place.ensures, c.requires.is.rows.len, c.args.self.now.rows.ok)
