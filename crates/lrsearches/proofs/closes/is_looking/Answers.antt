-- an item that is found looks at the tokens of its bits
use Rattle.std.proofs.Common.{◌∙◌, sym, ap, arith}
use Rattle.lrbits.specs.Bits.{bit}
use Rattle.lritems.specs.ItemsOf.{set_of}
use Rattle.lrclosing.proofs.ItemKeys.{item_here}
use Rattle.lrsearches.proofs.NeedFacts.{looks_found, looks_missing}
use Rattle.lrsearches.proofs.closes.is_looking.Goals as goal

pub get-requires-in-Some : goal.get-requires-in-Some
get-requires-in-Some g c =
    let number = g.T.IndexStorage.number in
    let here = item_here number g.T.Ord.cmp g.met.T.IndexStorage.ordered c.args.closed.now.items.entries (c.in-Look.pidx, c.in-Look.dot) in
    let fits = c.requires.fits (number c.in-Look.pidx.0) (number c.in-Look.dot.0) c.in-Some.ctx.now (sym (c.in-Some.ensures.value ∙ here)) in
    omega (arith, fits.bits, c.from.ensures, c.requires.token)

pub returns-in-Some : goal.returns-in-Some
returns-in-Some g c =
    let number = g.T.IndexStorage.number in
    let here = item_here number g.T.Ord.cmp g.met.T.IndexStorage.ordered c.args.closed.now.items.entries (c.in-Look.pidx, c.in-Look.dot) in
    rw c.in-Look.is
    (looks_found (set_of number c.args.closed.now) (number c.in-Look.pidx.0) (number c.in-Look.dot.0) (number c.args.token.0) c.in-Some.ctx.now c.get-in-Some.result
    (sym (c.in-Some.ensures.value ∙ here)) (c.get-in-Some.ensures.value ∙ ap (bit c.in-Some.ctx.now) c.from.ensures))

pub returns-in-None : goal.returns-in-None
returns-in-None g c =
    let number = g.T.IndexStorage.number in
    let here = item_here number g.T.Ord.cmp g.met.T.IndexStorage.ordered c.args.closed.now.items.entries (c.in-Look.pidx, c.in-Look.dot) in
    rw c.in-Look.is (
      λ h. absurd cc,
      λ l. absurd (looks_missing (set_of number c.args.closed.now) (number c.in-Look.pidx.0) (number c.in-Look.dot.0) (number c.args.token.0) (sym (c.in-None.ensures.value ∙ here)) l),
    )
