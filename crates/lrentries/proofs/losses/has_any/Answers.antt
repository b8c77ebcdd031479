use Rattle.std.proofs.Common.{sym, ◌∙◌}
use Rattle.std.proofs.lemmas.List.{take_all}
use Rattle.std.proofs.lemmas.List.Elements.{All-more}
use Rattle.lrentries.specs.Cells.{LacksCell}
use Rattle.lrentries.specs.Losses.{cell_of}
use Rattle.lrentries.proofs.losses.has_any.Goals as goal

pub loop-entry-preserved : goal.loop-entry-preserved
loop-entry-preserved c =
    let lacks : LacksCell c.args.cells.now c.cell.result = sym c.contains.ensures ∙ c.if-contains.false in
    All-more (λ e. LacksCell c.args.cells.now (cell_of e)) c.args.entries.now c.loop-entry.entry-index _ c.loop-entry-test.true c.loop-entry.invariant
    (rw c.cell.ensures at lacks)

pub returns : goal.returns
returns c = λ none. rw (take_all c.loop-entry.entry-index c.args.entries.now c.loop-entry-test.false) at c.loop-entry.invariant
