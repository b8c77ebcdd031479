use Rattle.std.proofs.Common.{◌≡◌, ◌≤◌, Some, None, IfSome, length, sym, ◌∙◌}
use Rattle.lrspec.specs.tables.Table.{goto_of}
use Rattle.lrsparse.specs.Matrix.{value_at}
use Rattle.lrrows.specs.StoredActions.{goto_numbered}
use Rattle.lrcells.proofs.MatrixCells.{read_among}
use Rattle.lrcells.proofs.StoredTables.{cell_read, cell_none}
use Rattle.lrcells.proofs.statetable.StateTable.goto.Goals as goal

pub returns-in_err-get : goal.returns-in_err-get
returns-in_err-get g c =
    let t = c.self.inside in
    let number = g.T.IndexStorage.number in
    let was : c.get.result ≡ None = c.in_err-get.was in
    let found : value_at t.gotos (number c.args.stidx.0) (number c.args.ridx.0) ≡ None = rw (← c.from.ensures, ← c.from-2.ensures) (sym c.get.ensures ∙ was) in
    let nowhere : goto_of c.args.self.now (number c.args.stidx.0) (number c.args.ridx.0) ≡ None =
    rw (← c.self.view_is) (cell_none goto_numbered None (length t.core_reduces.items) t.gotos _ _ c.self.invariant.2.rows found) in
    record { edge = rw (c.from_residual.ensures) (sym nowhere) }

pub goto_of_number-requires : goal.goto_of_number-requires
goto_of_number-requires g c =
    let was : c.get.result ≡ Some c.in_ok-get.field-0 = c.in_ok-get.was in
    read_among (λ v. IfSome (goto_numbered v) (λ s. s ≤ g.T.IndexStorage.MAX)) c.self.inside.gotos c.from.result c.from-2.result _ c.self.invariant.2.indexed (sym c.get.ensures ∙ was)

pub returns : goal.returns
returns g c =
    let t = c.self.inside in
    let number = g.T.IndexStorage.number in
    let was : c.get.result ≡ Some c.in_ok-get.field-0 = c.in_ok-get.was in
    let found : value_at t.gotos (number c.args.stidx.0) (number c.args.ridx.0) ≡ Some c.in_ok-get.field-0 = rw (← c.from.ensures, ← c.from-2.ensures) (sym c.get.ensures ∙ was) in
    let leads : goto_of c.args.self.now (number c.args.stidx.0) (number c.args.ridx.0) ≡ goto_numbered c.in_ok-get.field-0 =
    rw (← c.self.view_is) (cell_read goto_numbered None (length t.core_reduces.items) t.gotos _ _ _ c.self.invariant.2.rows found) in
    record { edge = c.goto_of_number.ensures ∙ sym leads }
