-- a turn for each place
use Rattle.std.proofs.Common.{◌<◌, length, sym, arith}
use Rattle.std.proofs.lemmas.List.{length-map}
use Rattle.lrgrammar.specs.Symbols.{symbol_of, number_of}
use Rattle.lrexchange.specs.StoredPositions.{symbols_of}
use Rattle.lrexchange.proofs.SunkPositions.{begin_common, next_common, at_mapped}
use Rattle.lrexchange.proofs.sinking.common.Goals as goal

pub loop-i-init : goal.loop-i-init
loop-i-init c =
    begin_common c.args.graph.now c.args.from.0 (symbols_of c.args.theirs.now) (symbols_of c.args.ours.now)

pub loop-i-preserved : goal.loop-i-preserved
loop-i-preserved c =
    let shown = symbol_of number_of in
    let theirs = c.args.theirs.now in
    let ours = c.args.ours.now in
    let n = c.loop-i.i in
    let l : n < length theirs = omega (arith, c.loop-i-test.true, c.min-most.ensures) in
    let m : n < length ours = omega (arith, c.loop-i-test.true, c.min-most.ensures) in
    next_common c.args.graph.now c.args.from.0 (symbols_of theirs) (symbols_of ours) c.loop-i.state.0 c.in-Some.next.0 n
    _ _ c.loop-i.invariant (omega (arith, l, length-map theirs shown)) (omega (arith, m, length-map ours shown))
    (at_mapped shown theirs n _ l) (at_mapped shown ours n _ m)
    (c.is_same_symbol.ensures.0 c.if-not-is_same_symbol.false) (sym c.in-Some.ensures)
