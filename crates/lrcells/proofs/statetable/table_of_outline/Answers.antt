use Rattle.lrspec.proofs.tables.ReductionsApart.{reduces_apart}
use Rattle.lrrows.proofs.ReadableGraphs.{readable_outline}
use Rattle.lrcells.proofs.OutlinedTables.{of_answer, of_error, outlined_table, outlined_refusal}
use Rattle.lrcells.proofs.statetable.table_of_outline.Goals as goal

pub read-requires : goal.read-requires
read-requires g c =
    let (h, graph, outline) = c.requires.outline in
    record { graph = readable_outline c.args.grm.now h c.args.outline.now.graph c.in_order.ensures.shape graph outline }

pub returns-clause-table : goal.returns-clause-table
returns-clause-table g c = of_answer c.read.result (λ b m h outline. outlined_table c.args.grm.now h c.args.outline.now.graph outline b m) c.read.ensures.table

pub returns-clause-reduces : goal.returns-clause-reduces
returns-clause-reduces g c =
    let (h, graph, outline) = c.requires.outline in
    of_answer c.read.result (λ b m. reduces_apart c.args.grm.now h b c.in_order.ensures.shape graph (outlined_table c.args.grm.now h c.args.outline.now.graph outline b m)) c.read.ensures.table

pub returns-clause-refused : goal.returns-clause-refused
returns-clause-refused g c =
    of_error c.read.result (λ e refused h outline. outlined_refusal c.args.grm.now h c.args.outline.now.graph outline g.T.IndexStorage.number g.T.IndexStorage.MAX e refused) c.read.ensures.refused
