use Rattle.std.proofs.Common.{length}
use Rattle.lrcells.proofs.TableRows.{acting_tokens}
use Rattle.lrcells.proofs.statetable.StateTable.state_actions.Goals as goal

pub returns : goal.returns
returns g c =
    let t = c.self.inside in record {
      tokens =
          rw (c.new.ensures, c.from.ensures, c.self.invariant.0, ← c.self.view_is)
          (acting_tokens (length t.core_reduces.items) t.actions t.gotos t.conflicts (g.T.IndexStorage.number c.args.stidx.0) c.self.invariant.1.rows);
    }
