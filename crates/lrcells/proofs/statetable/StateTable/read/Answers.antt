use Rattle.std.proofs.Common.{◌∙◌, ◌≤◌, ℕ, length, sym, ap, arith}
use Rattle.lrsparse.specs.Matrix.{Matrix}
use Rattle.lrspec.specs.tables.Table.{AcceptsAndReduces}
use Rattle.lrcells.proofs.MadeTable.{IsKeptOf, made_cells, made_gotos, made_kept, made_some, made_table, made_entries}
use Rattle.lrcells.proofs.statetable.StateTable.read.Given as given
use Rattle.lrcells.proofs.statetable.StateTable.read.Goals as goal

pub finish-actions-requires : goal.finish-actions-requires
finish-actions-requires g c = c.in_ok-rows.ensures.built_actions

pub finish-gotos-requires : goal.finish-gotos-requires
finish-gotos-requires g c = c.in_ok-rows.ensures.built_gotos

kept : (g : given.Over) (c : goal.After-unless_none g)
    → IsKeptOf g.T.IndexStorage.number c.in_ok-rows.rows c.finish-actions.result c.finish-gotos.result c.unless_none.result
kept g c = record {
  actions_are = c.finish-actions.ensures;
  gotos_are = c.finish-gotos.ensures;
  none = c.unless_none.ensures.none;
  lists = c.unless_none.ensures.lists;
}

pub invariant_of-result : goal.invariant_of-result
invariant_of-result g c =
    let number = g.T.IndexStorage.number in
    let most = g.T.IndexStorage.MAX in
    let below : length c.args.sg.now ≤ most = omega (arith, c.all_states_len.ensures, c.from.ensures, c.if-from-MAX.false) in
    let sizes = c.tokens_len.ensures.sizes in
    let rows = c.in_ok-rows.ensures in (
      (c.from-tokens_len.ensures ∙ c.tokens_len.ensures.value) ∙ sym (ap (λ (m : Matrix). m.cols) c.finish-actions.ensures ∙ rows.tokens),
      made_cells number _ _ _ _ _ _ rows (kept g c) most c.requires.graph sizes below,
      made_gotos number _ _ _ _ _ _ rows (kept g c) most c.requires.graph below,
      made_kept number _ _ _ _ _ _ rows (kept g c),
      made_some number _ _ _ _ _ _ rows (kept g c),
    )

uncontested : (g : given.Over) (c : goal.After-unless_none g) → (s p : ℕ) → AcceptsAndReduces c.args.grm.now c.args.sg.now s p → ⊥
uncontested g c = rw c.in_default.is at c.in_ok-least.ensures

pub returns-clause-table : goal.returns-clause-table
returns-clause-table g c = made_table g.T.IndexStorage.number _ _ _ _ _ _ c.in_ok-rows.ensures (kept g c) (uncontested g c)

pub returns-clause-entries : goal.returns-clause-entries
returns-clause-entries g c = made_entries g.T.IndexStorage.number _ _ _ _ _ _ c.in_ok-rows.ensures (kept g c) (uncontested g c)
