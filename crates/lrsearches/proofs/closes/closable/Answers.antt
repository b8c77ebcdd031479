-- what is not closed is settled
use Rattle.std.proofs.Common.{◌<◌, ◌≡◌, arith, sym, ◌∙◌}
use Rattle.lrsearches.specs.Searches as search
use Rattle.lrsearches.proofs.NeedFacts.{settled_moved, settled_start}
use Rattle.lrsearches.proofs.closes.closable.Goals as goal

pub returns-in_default-clause-settled : goal.returns-in_default-clause-settled
returns-in_default-clause-settled g c = rw c.in_default.is search.IsSettled.met

pub returns-then-from-gt0-clause-settled : goal.returns-then-from-gt0-clause-settled
returns-then-from-gt0-clause-settled g c =
    let number = g.T.IndexStorage.number in
    let above : 0 < number c.in-Look.dot.0 = omega (arith, c.from.ensures, c.if-from-gt0.true) in
    rw c.in-Look.is (settled_moved c.args.grm.now (number c.in-Look.pidx.0) (number c.in-Look.dot.0) above)

pub returns-then-eq-clause-settled : goal.returns-then-eq-clause-settled
returns-then-eq-clause-settled g c =
    let number = g.T.IndexStorage.number in
    let none : number c.in-Look.dot.0 ≡ 0 = omega (arith, c.from.ensures, c.if-from-gt0.false) in
    let same = (g.met.T.IndexStorage.same c.in-Look.pidx.0 c.start_prod.result.0).0 (sym c.eq.ensures ∙ c.if-eq.true) in
    rw c.in-Look.is (settled_start c.args.grm.now (number c.in-Look.pidx.0) (number c.in-Look.dot.0) (same ∙ c.start_prod.ensures) none)
