use Rattle.std.proofs.Common.{◌≡◌, ◌+◌, ◌∙◌, ap, arith, inl, Some, length-set}
use Rattle.lrspec.specs.grammars.Grammar.{token_count}
use Rattle.lrspec.proofs.grammars.BodyFacts.{symbol_at_dot}
use Rattle.lrclosing.specs.Rows.{row_at}
use Rattle.lrclosing.proofs.VisitedItems.{visited_nothing, visited_by, row_read, row_written, bits_if, rule_below, before_place, shaped_written}
use Rattle.lrclosing.proofs.closing.Closing.visit_item.Goals as goal

pub index_mut-requires : goal.index_mut-requires
index_mut-requires g c =
    let number = g.T.IndexStorage.number in
    let below = rule_below c.in-Some.ensures.shape c.args.self.now.rows.items c.requires.shaped.of_rules (number c.args.pidx.0) (number c.args.dot.0) (number c.in-Some.rule.0) c.in-Some.ensures.found in
    omega (arith, below, c.from.ensures, c.args.self.now.rows.ok)

pub passed_on-requires-clause-len : goal.passed_on-requires-clause-len
passed_on-requires-clause-len g c =
    let number = g.T.IndexStorage.number in
    let rows = c.args.self.now.rows.items in
    let r = number c.in-Some.rule.0 in
    let below = rule_below c.in-Some.ensures.shape rows c.requires.shaped.of_rules (number c.args.pidx.0) (number c.args.dot.0) r c.in-Some.ensures.found in
    let taken : c.take-taken.result ≡ row_at rows r = row_read rows c.from.result r _ _ _ c.take-taken.ensures.value c.index_mut.ensures.value c.from.ensures below in
    rw taken (bits_if (row_at rows r) (token_count c.args.grm.now) (c.requires.shaped.of_rules.bits r))

pub put_row-requires-clause-rule : goal.put_row-requires-clause-rule
put_row-requires-clause-rule g c =
    let number = g.T.IndexStorage.number in
    (symbol_at_dot c.in-Some.ensures.shape (number c.args.pidx.0) (number c.args.dot.0) _ c.in-Some.ensures.found).1

pub returns-in_ok-row-clause-visited : goal.returns-in_ok-row-clause-visited
returns-in_ok-row-clause-visited g c =
    let number = g.T.IndexStorage.number in
    let rows = c.args.self.now.rows.items in
    let r = number c.in-Some.rule.0 in
    let below = rule_below c.in-Some.ensures.shape rows c.requires.shaped.of_rules (number c.args.pidx.0) (number c.args.dot.0) r c.in-Some.ensures.found in
    let taken : c.take-taken.result ≡ row_at rows r = row_read rows c.from.result r _ _ _ c.take-taken.ensures.value c.index_mut.ensures.value c.from.ensures below in
    visited_by c.args.grm.now (number c.args.pidx.0) (number c.args.dot.0) r _ (Some c.args.ctx.now) (Some c.args.ctx.now) c.take-taken.result rows c.put_row.new.self.rows.items
    c.in_ok-row.row c.args.self.now.todo c.put_row.new.self.todo c.in_ok-row.changed (token_count c.args.grm.now) c.in-Some.ensures.found
    (ap (λ n. n + 1) c.to_usize.ensures.number) taken c.in_ok-row.ensures.passed c.in_ok-row.ensures.changed c.put_row.ensures.todo
    (row_written rows _ c.from.result r _ _ c.put_row.ensures.row c.from.ensures) below (λ t h. h) (λ t h. inl h)

pub returns-in_default-clause-visited : goal.returns-in_default-clause-visited
returns-in_default-clause-visited g c = visited_nothing _ _ _ _ _ _ c.in_default.ensures.none

pub rule_behind-requires : goal.rule_behind-requires
rule_behind-requires g c = c.requires.fits.production

pub passed_on-requires-clause-of : goal.passed_on-requires-clause-of
passed_on-requires-clause-of g c = c.requires.of

pub passed_on-requires-clause-production : goal.passed_on-requires-clause-production
passed_on-requires-clause-production g c = c.requires.fits.production

pub passed_on-requires-clause-place : goal.passed_on-requires-clause-place
passed_on-requires-clause-place g c =
    let number = g.T.IndexStorage.number in
    let here = before_place c.args.grm.now (number c.args.pidx.0) (number c.args.dot.0) _ c.in-Some.ensures.found in
    omega (arith, here, c.to_usize.ensures.number)

pub passed_on-requires-clause-ctx_len : goal.passed_on-requires-clause-ctx_len
passed_on-requires-clause-ctx_len g c = c.requires.fits.bits

pub put_row-requires-clause-rows : goal.put_row-requires-clause-rows
put_row-requires-clause-rows g c = length-set c.args.self.now.rows.items c.from.result _ ∙ c.requires.shaped.of_rules.rules

pub put_row-requires-clause-productions : goal.put_row-requires-clause-productions
put_row-requires-clause-productions g c = c.requires.shaped.of_productions

pub returns-in_ok-row-clause-shaped : goal.returns-in_ok-row-clause-shaped
returns-in_ok-row-clause-shaped g c =
    let number = g.T.IndexStorage.number in
    let rows = c.args.self.now.rows.items in
    let r = number c.in-Some.rule.0 in
    let below = rule_below c.in-Some.ensures.shape rows c.requires.shaped.of_rules (number c.args.pidx.0) (number c.args.dot.0) r c.in-Some.ensures.found in
    shaped_written c.args.grm.now rows c.put_row.new.self.rows.items r c.in_ok-row.row c.args.self.now.todo c.put_row.new.self.todo c.in_ok-row.changed c.requires.shaped
    (row_written rows _ c.from.result r _ _ c.put_row.ensures.row c.from.ensures) below c.in_ok-row.ensures.passed.len c.put_row.ensures.todo
