use Rattle.std.proofs.Common.{◌≡◌, ◌+◌, ◌<◌, None, ◌∙◌, length, set, length-set, arith}
use Rattle.std.specs.Option.{option_copied}
use Rattle.lrspec.specs.grammars.Grammar.{Rule, token_count}
use Rattle.lrspec.specs.grammars.ItemSets.{IsBefore}
use Rattle.lrspec.proofs.grammars.BodyFacts.{symbol_at_dot}
use Rattle.lrclosing.specs.Rows.{row_at}
use Rattle.lrclosing.proofs.ClosingUnderway.{one_rule}
use Rattle.lrclosing.proofs.VisitedItems.{visited_nothing, visited_by, row_read, row_beside, row_written, from_taken, to_taken, rule_below, before_place, shaped_written, bits_if, bits_beside}
use Rattle.lrclosing.proofs.VisitsLeft.{left_by_visit}
use Rattle.lrclosing.proofs.closing.Closing.visit_production.Given as given
use Rattle.lrclosing.proofs.closing.Closing.visit_production.Goals as goal
use Rattle.lrclosing.proofs.closing.Closing.visit_production.Goals.{In-Some, After-prod_to_rule, After-take-taken, After-as_ref-own}

-- the production begins with the rule
before : (g : given.Over) (c : In-Some g)
    → IsBefore c.args.grm.now (g.T.IndexStorage.number c.args.pidx.0) 0 (Rule (g.T.IndexStorage.number c.in-Some.rule.0))
before g c =
    let zero : g.T.IndexStorage.number c.unwrap.result ≡ 0 = (rw c.unwrap.ensures at c.from_usize.ensures).1 in
    rw zero at c.in-Some.ensures.found

-- which has a row
below : (g : given.Over) (c : In-Some g) → g.T.IndexStorage.number c.in-Some.rule.0 < length c.args.self.now.rows.items
below g c =
    rule_below c.in-Some.ensures.shape c.args.self.now.rows.items c.requires.shaped.of_rules (g.T.IndexStorage.number c.args.pidx.0) 0
    (g.T.IndexStorage.number c.in-Some.rule.0) (before g c)

-- as its own rule has
own_below : (g : given.Over) (c : After-prod_to_rule g) → g.T.IndexStorage.number c.prod_to_rule.result.0 < length c.args.self.now.rows.items
own_below g c =
    let number = g.T.IndexStorage.number in
    let own_rule = c.requires.of.shape.rules (number c.args.pidx.0) (number c.prod_to_rule.result.0) c.prod_to_rule.ensures.rule in
    omega (arith, own_rule, c.requires.shaped.of_rules.rules)

taken : (g : given.Over) (c : After-take-taken g) → g.T.IndexStorage.number c.in-Some.rule.0 < length c.args.self.now.rows.items
    → c.take-taken.result ≡ row_at c.args.self.now.rows.items (g.T.IndexStorage.number c.in-Some.rule.0)
taken g c l =
    row_read c.args.self.now.rows.items c.from.result (g.T.IndexStorage.number c.in-Some.rule.0) _ _ _ c.take-taken.ensures.value
    c.index_mut.ensures.value c.from.ensures l

own : (g : given.Over) (c : After-as_ref-own g)
    → g.T.IndexStorage.number c.prod_to_rule.result.0 < length c.args.self.now.rows.items
    → option_copied c.as_ref-own.result
    ≡ row_at (set c.args.self.now.rows.items (g.T.IndexStorage.number c.in-Some.rule.0) None) (g.T.IndexStorage.number c.prod_to_rule.result.0)
own g c l =
    let number = g.T.IndexStorage.number in
    row_beside c.args.self.now.rows.items c.from.result (number c.in-Some.rule.0) c.from-in-Some.result (number c.prod_to_rule.result.0) _ _ _ _
    c.as_ref-own.ensures.value c.index.ensures c.take-taken.ensures.after c.from.ensures c.from-in-Some.ensures
    l

pub returns-in_ok-row-clause-visited : goal.returns-in_ok-row-clause-visited
returns-in_ok-row-clause-visited g c = λ s i.
    let at = goal.at.returns-in_ok-row-clause-visited g c in
    let number = g.T.IndexStorage.number in
    let p = number c.args.pidx.0 in
    let rows = c.args.self.now.rows.items in
    let r = number c.in-Some.rule.0 in
    let l = number c.prod_to_rule.result.0 in
    let here = below g at.In-Some in
    let same : s ≡ l = one_rule _ l s c.prod_to_rule.ensures.rule i in
    let e : 1 ≡ 0 + 1 = omega arith in
    rw same (visited_by c.args.grm.now p 0 r 1 (row_at (set rows r None) l) (row_at rows l) c.take-taken.result rows c.put_row.new.self.rows.items
    c.in_ok-row.row c.args.self.now.todo c.put_row.new.self.todo c.in_ok-row.changed (token_count c.args.grm.now) (before g at.In-Some)
    e (taken g at.After-take-taken here) (rw (own g at.After-as_ref-own (own_below g at.After-prod_to_rule)) at c.in_ok-row.ensures.passed)
    c.in_ok-row.ensures.changed c.put_row.ensures.todo
    (row_written rows _ c.from.result r _ _ c.put_row.ensures.row c.from.ensures) here (from_taken rows r l here) (to_taken rows r l here))

pub returns-in_ok-row-clause-left : goal.returns-in_ok-row-clause-left
returns-in_ok-row-clause-left g c =
    let at = goal.at.returns-in_ok-row-clause-left g c in
    let rows = c.args.self.now.rows.items in
    let r = g.T.IndexStorage.number c.in-Some.rule.0 in
    let here = below g at.In-Some in
    rw (row_written rows _ c.from.result r _ _ c.put_row.ensures.row c.from.ensures)
    (left_by_visit c.in_ok-row.changed c.args.grm.now (token_count c.args.grm.now) r rows c.in_ok-row.row c.args.self.now.todo c.put_row.new.self.todo here
    (rw (taken g at.After-take-taken here) at c.in_ok-row.ensures.changed) c.put_row.ensures.todo)

pub returns-in_default-clause-visited : goal.returns-in_default-clause-visited
returns-in_default-clause-visited g c = λ s i.
    let zero : g.T.IndexStorage.number c.unwrap.result ≡ 0 = (rw c.unwrap.ensures at c.from_usize.ensures).1 in
    visited_nothing _ _ _ _ _ _ (rw zero at c.in_default.ensures.none)

pub rule_behind-requires : goal.rule_behind-requires
rule_behind-requires g c = c.requires.production

pub prod_to_rule-requires : goal.prod_to_rule-requires
prod_to_rule-requires g c = c.requires.production

pub passed_on-requires-clause-production : goal.passed_on-requires-clause-production
passed_on-requires-clause-production g c = c.requires.production

pub passed_on-requires-clause-of : goal.passed_on-requires-clause-of
passed_on-requires-clause-of g c = c.requires.of

pub index_mut-requires : goal.index_mut-requires
index_mut-requires g c = omega (arith, below g (goal.at.index_mut-requires g c).In-Some, c.from.ensures, c.args.self.now.rows.ok)

pub index-requires : goal.index-requires
index-requires g c =
    omega (arith, own_below g (goal.at.index-requires g c).After-prod_to_rule, c.from-in-Some.ensures, c.args.self.now.rows.ok)

pub passed_on-requires-clause-place : goal.passed_on-requires-clause-place
passed_on-requires-clause-place g c =
    before_place c.args.grm.now (g.T.IndexStorage.number c.args.pidx.0) 0 _ (before g (goal.at.passed_on-requires-clause-place g c).In-Some)

pub passed_on-requires-clause-len : goal.passed_on-requires-clause-len
passed_on-requires-clause-len g c =
    let at = goal.at.passed_on-requires-clause-len g c in
    let r = g.T.IndexStorage.number c.in-Some.rule.0 in
    rw (taken g at.After-take-taken (below g at.In-Some))
    (bits_if (row_at c.args.self.now.rows.items r) (token_count c.args.grm.now) (c.requires.shaped.of_rules.bits r))

pub passed_on-requires-clause-ctx_len : goal.passed_on-requires-clause-ctx_len
passed_on-requires-clause-ctx_len g c =
    let at = goal.at.passed_on-requires-clause-ctx_len g c in
    let number = g.T.IndexStorage.number in
    rw (own g at.After-as_ref-own (own_below g at.After-prod_to_rule))
    (bits_beside c.args.self.now.rows.items (number c.in-Some.rule.0) (number c.prod_to_rule.result.0) (token_count c.args.grm.now) (below g at.In-Some)
    c.requires.shaped.of_rules.bits)

pub put_row-requires-clause-rule : goal.put_row-requires-clause-rule
put_row-requires-clause-rule g c =
    (symbol_at_dot c.in-Some.ensures.shape (g.T.IndexStorage.number c.args.pidx.0) 0 _ (before g (goal.at.put_row-requires-clause-rule g c).In-Some)).1

pub put_row-requires-clause-rows : goal.put_row-requires-clause-rows
put_row-requires-clause-rows g c = length-set c.args.self.now.rows.items c.from.result _ ∙ c.requires.shaped.of_rules.rules

pub put_row-requires-clause-productions : goal.put_row-requires-clause-productions
put_row-requires-clause-productions g c = c.requires.shaped.of_productions

pub returns-in_ok-row-clause-shaped : goal.returns-in_ok-row-clause-shaped
returns-in_ok-row-clause-shaped g c =
    let rows = c.args.self.now.rows.items in
    let r = g.T.IndexStorage.number c.in-Some.rule.0 in
    shaped_written c.args.grm.now rows c.put_row.new.self.rows.items r c.in_ok-row.row c.args.self.now.todo c.put_row.new.self.todo c.in_ok-row.changed c.requires.shaped
    (row_written rows _ c.from.result r _ _ c.put_row.ensures.row c.from.ensures) (below g (goal.at.returns-in_ok-row-clause-shaped g c).In-Some)
    c.in_ok-row.ensures.passed.len c.put_row.ensures.todo

pub returns-in_default-clause-shaped : goal.returns-in_default-clause-shaped
returns-in_default-clause-shaped g c = c.requires.shaped
