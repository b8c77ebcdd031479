use Rattle.std.proofs.lemmas.List.{take_all}
use Rattle.std.proofs.lemmas.List.Elements.{All-contains, All-more}
use Rattle.lrevidence.specs.KeptEntries.{IsToldKept}
use Rattle.lrreport.proofs.conflicts.Checked.are_kept.Goals as goal

pub loop-entry-preserved : goal.loop-entry-preserved
loop-entry-preserved c =
    let checked = c.args.self.now in
    let is_kept = IsToldKept checked.found.now.grm checked.found.now.graph checked.found.now.table in
    All-more is_kept c.args.entries.now c.loop-entry.entry-index _ c.loop-entry-test.true c.loop-entry.invariant
    (All-contains is_kept checked.told.kept.now _ c.requires (c.is_among.ensures c.if-not-is_among.false))

pub returns : goal.returns
returns c = λ told. rw (take_all c.loop-entry.entry-index c.args.entries.now c.loop-entry-test.false) at c.loop-entry.invariant
