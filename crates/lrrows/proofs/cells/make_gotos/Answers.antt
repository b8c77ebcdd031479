use Rattle.std.proofs.Common.{append-nil}
use Rattle.lrspec.specs.merging.Graph as math
use Rattle.lrgraphs.proofs.DistinctSymbols.{distinct_entries}
use Rattle.lrrows.proofs.GotoEntries.{goto_row_is, gotos_within, gotos_some, gotos_upwards}
use Rattle.lrrows.proofs.cells.make_gotos.Goals as goal

pub returns-clause-entries : goal.returns-clause-entries
returns-clause-entries g c =
    let number = g.T.IndexStorage.number in
    let grm = c.args.grm.now in
    let h = c.args.sg.now in
    let s = number c.args.stidx.0 in
    let es = c.edges-edges.result.now.entries in
    let upwards = rw c.edges-edges.ensures.edges at (gotos_upwards number (λ u. number u.0) _ c.edges-edges.ensures.order es c.len.ensures.ordered) in
    let distinct = rw c.edges-edges.ensures.edges at (distinct_entries number (λ u. number u.0) _ c.edges-edges.ensures.order es c.len.ensures.ordered) in
    let made = rw (c.in-None.ensures.steps.0, append-nil) at c.loop-symbol.invariant in
    rw made (record { upwards = upwards; within = gotos_within grm h s c.requires.graph distinct; some = gotos_some (math.edges_of h s) })

pub returns-clause-row : goal.returns-clause-row
returns-clause-row g c =
    let made = rw (c.in-None.ensures.steps.0, append-nil) at c.loop-symbol.invariant in
    goto_row_is c.args.grm.now c.args.sg.now (g.T.IndexStorage.number c.args.stidx.0) c.loop-symbol.entries.items made
