use Rattle.std.proofs.Common.{◌∙◌, length, arith}
use Rattle.std.proofs.lemmas.Result.{on_ok_weaker}
use Rattle.lrspec.specs.grammars.Grammar.{token_count}
use Rattle.lrrows.specs.StateRows.{action_row, goto_row}
use Rattle.lrrows.specs.StoredActions.{IsIndexed, action_numbered}
use Rattle.lrrows.proofs.EntryActions.{each_entry, all_there, by_one_there}
use Rattle.lrrows.proofs.IndexedRows.{indexed_action_row}
use Rattle.lrrows.proofs.UsedTokens.{same_at, unused_errs}
use Rattle.lrrows.proofs.NextRows.{row_more, least_listed, reduce_reduce_listed, listed_len, next_rows}
use Rattle.lrrows.proofs.rows.Rows.push.Goals as goal

pub completes-requires : goal.completes-requires
completes-requires g c =
    rw c.closed_state-closed.ensures.items (c.requires.graph.closed (g.T.IndexStorage.number c.args.stidx.0) c.requires.below)

pub accepted-accepts-requires : goal.accepted-accepts-requires
accepted-accepts-requires g c =
    rw c.closed_state-closed.ensures.items (c.requires.graph.closed (g.T.IndexStorage.number c.args.stidx.0) c.requires.below)

pub make_actions-requires-clause-least : goal.make_actions-requires-clause-least
make_actions-requires-clause-least g c =
    let closed = c.closed_state-closed.ensures in
    let fits = c.requires.graph.closed (g.T.IndexStorage.number c.args.stidx.0) c.requires.below in
    rw c.as_slice-3.ensures.value
    (least_listed c.args.grm.now c.args.sg.now _ _ _ _ closed.upwards fits closed.items c.in_ok-complete.ensures.items (rw c.as_slice.ensures.value at c.in_ok-least.ensures))

pub reduces_of-requires : goal.reduces_of-requires
reduces_of-requires g c =
    let most = g.T.IndexStorage.MAX in
    let s = g.T.IndexStorage.number c.args.stidx.0 in
    let made = c.in_ok-make_actions.ensures in
    rw c.as_slice-row.ensures.value
    (each_entry (token_count c.args.grm.now) _ made.entries (λ n. IsIndexed most (action_numbered n))
    (rw made.row (indexed_action_row c.args.grm.now c.args.sg.now most s c.requires.graph c.in_order.ensures.sizes c.requires.states)))

pub reduces_by_one-requires-clause-indexed : goal.reduces_by_one-requires-clause-indexed
reduces_by_one-requires-clause-indexed g c =
    let most = g.T.IndexStorage.MAX in
    let s = g.T.IndexStorage.number c.args.stidx.0 in
    let made = c.in_ok-make_actions.ensures in
    rw c.as_slice-row.ensures.value
    (each_entry (token_count c.args.grm.now) _ made.entries (λ n. IsIndexed most (action_numbered n))
    (rw made.row (indexed_action_row c.args.grm.now c.args.sg.now most s c.requires.graph c.in_order.ensures.sizes c.requires.states)))

pub reduces_by_one-requires-clause-reduces : goal.reduces_by_one-requires-clause-reduces
reduces_by_one-requires-clause-reduces g c = rw c.as_slice-4.ensures.value c.in_ok-reduces.ensures

pub push_entries-requires-clause-cols : goal.push_entries-requires-clause-cols
push_entries-requires-clause-cols g c = omega (arith, c.requires.rows.tokens, c.in_order.ensures.sizes.tokens, g.met.T.IndexStorage.most)

pub push_entries-requires-clause-entries : goal.push_entries-requires-clause-entries
push_entries-requires-clause-entries g c = rw (c.as_slice-row.ensures.value, c.requires.zeros.actions, c.requires.rows.tokens) c.in_ok-make_actions.ensures.entries

pub push_entries-requires-2-clause-cols : goal.push_entries-requires-2-clause-cols
push_entries-requires-2-clause-cols g c = omega (arith, c.requires.rows.rules, c.in_order.ensures.sizes.rules, g.met.T.IndexStorage.most)

pub push_entries-requires-2-clause-entries : goal.push_entries-requires-2-clause-entries
push_entries-requires-2-clause-entries g c = rw (c.as_slice-5.ensures.value, c.requires.zeros.gotos, c.requires.rows.rules) c.in_ok-make_gotos.ensures.entries

pub push_reduce_reduce-requires-clause-bits : goal.push_reduce_reduce-requires-clause-bits
push_reduce_reduce-requires-clause-bits g c =
    let count = listed_len _ _ _ _ c.in_ok-least.ensures in
    rw (c.as_slice-7.ensures.value, c.as_slice-6.ensures.value, count) c.in_ok-complete.ensures.bits

pub push_reduce_reduce-requires-clause-tokens : goal.push_reduce_reduce-requires-clause-tokens
push_reduce_reduce-requires-clause-tokens g c =
    let count = listed_len _ _ _ _ c.in_ok-least.ensures in
    rw (c.as_slice-6.ensures.value, count) c.in_order.ensures.sizes.tokens

pub push_shift_reduce-requires-clause-least : goal.push_shift_reduce-requires-clause-least
push_shift_reduce-requires-clause-least g c =
    let closed = c.closed_state-closed.ensures in
    let fits = c.requires.graph.closed (g.T.IndexStorage.number c.args.stidx.0) c.requires.below in
    rw c.as_slice-8.ensures.value
    (least_listed c.args.grm.now c.args.sg.now _ _ _ _ closed.upwards fits closed.items c.in_ok-complete.ensures.items (rw c.as_slice.ensures.value at c.in_ok-least.ensures))

pub returns-clause-rows : goal.returns-clause-rows
returns-clause-rows g c =
    let number = g.T.IndexStorage.number in
    let grm = c.args.grm.now in
    let h = c.args.sg.now in
    let s = number c.args.stidx.0 in
    let old = c.args.self.now in
    let closed = c.closed_state-closed.ensures in
    let fits = c.requires.graph.closed s c.requires.below in
    let least = least_listed grm h s _ _ _ closed.upwards fits closed.items c.in_ok-complete.ensures.items (rw c.as_slice.ensures.value at c.in_ok-least.ensures) in
    let entries = reduce_reduce_listed grm h s _ _ _ closed.upwards fits closed.items c.in_ok-complete.ensures.items least in
    let made = c.in_ok-make_actions.ensures in
    let edges = c.in_ok-make_gotos.ensures in
    let more = c.in_ok-push_entries.ensures in
    let actions =
    row_more old.actions c.push_entries.new.self (token_count grm) _ _ (action_row grm h s) more.built more.cols more.cells
    c.as_slice-row.ensures.value c.requires.zeros.actions c.requires.rows.tokens made.row in
    let later = c.in_ok-push_entries-2.ensures in
    let gotos =
    row_more old.gotos c.push_entries-2.new.self (length grm.rule_names) _ _ (goto_row grm h s) later.built later.cols later.cells
    c.as_slice-5.ensures.value c.requires.zeros.gotos c.requires.rows.rules edges.row in
    let reduces = rw c.as_slice-row.ensures.value at c.in_ok-reduces.ensures in
    let one = rw c.as_slice-row.ensures.value at c.reduces_by_one.ensures in
    let same = rw made.row at (by_one_there (token_count grm) _ made.entries) in
    on_ok_weaker c.push_shift_reduce.result
    (λ listed.
    next_rows number grm h s old _ c.in_ok-reduces.reduces c.reduces_by_one.result c.requires.rows
    actions gotos c.in_ok-push-2.ensures.items (rw made.row at (all_there (token_count grm) _ made.entries _ reduces))
    c.in_ok-push.ensures.items (λ b. same.0 (one.0 b), λ r. one.1 (same.1 r))
    (rw (c.as_slice-6.ensures.value, c.as_slice-7.ensures.value, entries) at c.in_ok-push_reduce_reduce.ensures.entries) listed)
    c.push_shift_reduce.ensures.entries

pub returns-clause-zeros : goal.returns-clause-zeros
returns-clause-zeros g c =
    on_ok_weaker c.push_shift_reduce.result
    (λ listed. record {
      actions = c.in_ok-push_entries.ensures.empty ∙ c.requires.zeros.actions;
      gotos = c.in_ok-push_entries-2.ensures.empty ∙ c.requires.zeros.gotos;
    })
    c.push_shift_reduce.ensures.entries

pub closed_state-closed-requires : goal.closed_state-closed-requires
closed_state-closed-requires g c = c.requires.below

pub least_by_token-requires : goal.least_by_token-requires
least_by_token-requires g c = record { bits = rw c.as_slice.ensures.value c.in_ok-complete.ensures.bits }

pub make_actions-requires-clause-accepts : goal.make_actions-requires-clause-accepts
make_actions-requires-clause-accepts g c = λ t. rw c.closed_state-closed.ensures.items at (c.accepted-accepts.ensures.accepts t)

pub make_actions-requires-clause-bits : goal.make_actions-requires-clause-bits
make_actions-requires-clause-bits g c = c.accepted-accepts.ensures.bits

pub used_tokens-requires-clause-bits : goal.used_tokens-requires-clause-bits
used_tokens-requires-clause-bits g c = rw c.as_slice-2.ensures.value c.in_ok-complete.ensures.bits

pub used_tokens-requires-clause-accepted_bits : goal.used_tokens-requires-clause-accepted_bits
used_tokens-requires-clause-accepted_bits g c = c.accepted-accepts.ensures.bits

pub make_actions-requires-clause-tokens : goal.make_actions-requires-clause-tokens
make_actions-requires-clause-tokens g c = c.in_order.ensures.sizes.tokens

pub make_actions-requires-clause-used : goal.make_actions-requires-clause-used
make_actions-requires-clause-used g c = c.in_ok-used.ensures.bits

pub make_actions-requires-clause-errs : goal.make_actions-requires-clause-errs
make_actions-requires-clause-errs g c = λ t l unset.
    let grm = c.args.grm.now in
    let h = c.args.sg.now in
    let s = g.T.IndexStorage.number c.args.stidx.0 in
    let closed = c.closed_state-closed.ensures in
    let fits = c.requires.graph.closed s c.requires.below in
    let listed = rw c.as_slice.ensures.value at c.in_ok-least.ensures in
    let least = least_listed grm h s _ _ _ closed.upwards fits closed.items c.in_ok-complete.ensures.items listed in
    unused_errs grm h s t _ _ _ (rw c.as_slice-2.ensures.value at (c.in_ok-used.ensures.each t))
    (rw closed.items at (c.accepted-accepts.ensures.accepts t)) (same_at _ _ (token_count grm) t _ listed least l) unset
