-- by what is common
use Rattle.std.proofs.Common.{drop, refl, ap, ◌∙◌}
use Rattle.lrclosing.proofs.SymbolsBehindDots.{sliced}
use Rattle.lrgrammar.specs.Symbols.{symbol_of, number_of}
use Rattle.lrexchange.specs.StoredPositions.{symbols_of, ours_of, position_of}
use Rattle.lrexchange.proofs.SamePositions.{the_position}
use Rattle.lrexchange.proofs.SunkPositions.{sinks}
use Rattle.lrexchange.proofs.sinking.sunk.Goals as goal

pub returns : goal.returns
returns c =
    let a = position_of c.args.position.now in
    let n = c.common-count.result.0 in
    let u = c.common-count.result.1.0 in
    let xs = c.as_slice-theirs.result.now in
    let below = the_position a.turn u (symbols_of c.in_ok-theirs.theirs.items) (ours_of c.in_ok-ours.ours) in
    sinks c.args.graph.now a below n (symbols_of c.sinkable-before.result.now) u (rw c.as_slice-theirs.ensures.value at c.common-count.ensures)
    c.sinkable-before.ensures refl
    (ap symbols_of c.in_ok-theirs.ensures.items ∙ sliced (symbol_of number_of) xs n (symbols_of xs) refl
    ∙ ap (λ ys. drop n (symbols_of ys)) c.as_slice-theirs.ensures.value)
    c.in_ok-ours.ensures refl
