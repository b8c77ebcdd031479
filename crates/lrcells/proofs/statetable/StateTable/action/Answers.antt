use Rattle.std.proofs.Common.{◌≡◌, Some, None, length, sym, ◌∙◌}
use Rattle.lrsparse.specs.Matrix.{value_at}
use Rattle.lrspec.specs.tables.Table.{Error}
use Rattle.lrrows.specs.StoredActions.{action_numbered}
use Rattle.lrcells.proofs.StoredTables.{cell_read, cell_none}
use Rattle.lrcells.proofs.statetable.StateTable.action.Goals as goal

pub returns-in-Some : goal.returns-in-Some
returns-in-Some g c =
    let t = c.self.inside in
    let number = g.T.IndexStorage.number in
    let found : value_at t.actions (number c.args.stidx.0) (number c.args.tidx.0) ≡ Some c.in-Some.number = rw (← c.from.ensures, ← c.from-2.ensures) (sym c.get.ensures ∙ c.in-Some.is) in
    record {
      cell = c.action_of_number.ensures
          ∙ rw (← c.self.view_is) (sym (cell_read action_numbered Error (length t.core_reduces.items) t.actions _ _ _ c.self.invariant.1.rows found));
    }

pub returns-in-None : goal.returns-in-None
returns-in-None g c =
    let t = c.self.inside in
    let number = g.T.IndexStorage.number in
    let found : value_at t.actions (number c.args.stidx.0) (number c.args.tidx.0) ≡ None = rw (← c.from.ensures, ← c.from-2.ensures) (sym c.get.ensures ∙ c.in-None.is) in
    record {
      cell = rw (← c.self.view_is) (sym (cell_none action_numbered Error (length t.core_reduces.items) t.actions _ _ c.self.invariant.1.rows found));
    }
