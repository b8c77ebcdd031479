use Rattle.std.proofs.Common.{◌≤◌, false, length, ap, ◌∙◌}
use Rattle.std.specs.Option.{unwrap_or}
use Rattle.lrspec.specs.tables.Rows.{ReducesOnly}
use Rattle.lrcells.proofs.TableRows.{only_got, reduces_only_past}
use Rattle.lrcells.proofs.statetable.StateTable.reduce_only_state.Goals as goal

pub returns : goal.returns
returns g c =
    let t = c.self.inside in
    let number = g.T.IndexStorage.number in
    let s = number c.args.stidx.0 in
    let past : length t.core_reduces.items ≤ s → ReducesOnly c.args.self.now s → ⊥ = rw (← c.self.view_is) (reduces_only_past (length t.core_reduces.items) t.actions t.gotos t.conflicts s) in
    record {
      only = only_got number c.args.self.now t.core_reduces.items t.reduce_only.items (rw (← c.self.view_is) c.self.invariant.3) s c.from.result c.from.ensures
          c.deref.result.now c.get.result c.unwrap_or.result c.deref.ensures.value past c.get.ensures.lookup.3 (c.unwrap_or.ensures ∙ ap (λ o. unwrap_or o false) c.copied.ensures);
    }
