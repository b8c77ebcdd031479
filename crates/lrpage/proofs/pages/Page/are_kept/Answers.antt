use Rattle.std.proofs.lemmas.List.{take_all}
use Rattle.std.proofs.lemmas.List.Elements.{All-more}
use Rattle.lrpage.specs.KeptEntries.{IsShownKept}
use Rattle.lrpage.proofs.pages.Page.are_kept.Goals as goal

pub loop-entry-preserved : goal.loop-entry-preserved
loop-entry-preserved c =
    let found = c.args.self.now.found.now in
    All-more (IsShownKept found.grm found.graph found.table) c.args.entries.now c.loop-entry.entry-index _ c.loop-entry-test.true
    c.loop-entry.invariant (c.is_kept.ensures c.if-not-is_kept.false)

pub returns : goal.returns
returns c = λ told. rw (take_all c.loop-entry.entry-index c.args.entries.now c.loop-entry-test.false) at c.loop-entry.invariant
