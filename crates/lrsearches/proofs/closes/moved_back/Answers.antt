-- dots go back by one
use Rattle.std.proofs.Common.{◌≡◌, suc, arith}
use Rattle.lrsearches.specs.Searches as search
use Rattle.lrsearches.proofs.NeedFacts.{back_of_moved}
use Rattle.lrsearches.proofs.closes.moved_back.Goals as goal

pub returns-in-Met : goal.returns-in-Met
returns-in-Met g c = rw c.in-Met.is search.GoesBack.met

pub returns-else-place-eq0 : goal.returns-else-place-eq0
returns-else-place-eq0 g c =
    let number = g.T.IndexStorage.number in
    let less = (rw c.unwrap.ensures at c.from_usize.ensures).1 in
    let next : number c.in-Look.dot.0 ≡ suc (number c.unwrap.result) = omega (arith, less, c.to_usize-place.ensures.number, c.if-place-eq0.false) in
    rw c.in-Look.is (back_of_moved (number c.in-Look.pidx.0) (number c.in-Look.dot.0) (number c.unwrap.result) next)
