use Rattle.lrspec.specs.tables.LrTables.{HasNoPrecedences, ListsNothing}
use Rattle.lrspec.proofs.tables.NoPrecedences.{no_precedences}
use Rattle.lrspec.proofs.tables.ExactWithoutPrecedences.{recognises_without_precedences}
use Rattle.lrverdicts.proofs.verdicts.is_unambiguous.Goals as goal

pub returns-in-None-clause-proved : goal.returns-in-None-clause-proved
returns-in-None-clause-proved c told =
    let grm = c.args.grm.now in
    let table = c.requires in
    let plain : HasNoPrecedences grm = (no_precedences grm).1 (λ some. let k = c.has_precedences.ensures.1 some in cc) in
    let nothing : ListsNothing c.args.table.now = rw c.in-None.is at c.conflicts.ensures.none in
    (recognises_without_precedences grm table.graph c.in_order.ensures.shape table.graph_of plain c.args.table.now table.table_of nothing).one_tree
