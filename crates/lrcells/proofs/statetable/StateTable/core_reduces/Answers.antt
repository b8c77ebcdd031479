use Rattle.std.proofs.Common.{◌≤◌, length, sym, ap, ◌∙◌}
use Rattle.std.specs.Prelude.{map}
use Rattle.std.proofs.lemmas.Bool.{ltb-false}
use Rattle.lrcells.proofs.TableRows.{reduces_read, reduces_past}
use Rattle.lrcells.proofs.statetable.StateTable.core_reduces.Goals as goal

pub returns-in-Some : goal.returns-in-Some
returns-in-Some g c =
    let t = c.self.inside in
    let number = g.T.IndexStorage.number in
    let read = c.in-Some.ensures.lookup in
    record {
      prods = rw (← c.self.view_is)
          (reduces_read number _ t.core_reduces.items t.reduce_only.items c.self.invariant.3 (number c.args.stidx.0) c.from.result c.from.ensures
          c.deref.result.now c.in-Some.prods.now c.new.result c.deref.ensures.value read.3.0 read.1 (c.new.ensures ∙ ap (map (λ p. number p.0)) c.as_slice.ensures.value));
    }

pub returns-in-None : goal.returns-in-None
returns-in-None g c =
    let t = c.self.inside in
    let number = g.T.IndexStorage.number in
    let past : length t.core_reduces.items ≤ number c.args.stidx.0 = rw (← c.from.ensures, ← c.deref.ensures.value) (ltb-false _ _ (sym c.in-None.ensures.lookup.0)) in
    record {
      prods = rw (c.new-in-None.ensures, ← c.self.view_is) (reduces_past (length t.core_reduces.items) t.actions t.gotos t.conflicts (number c.args.stidx.0) past);
    }
