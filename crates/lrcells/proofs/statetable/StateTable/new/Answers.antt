use Rattle.lrspec.proofs.tables.ReductionsApart.{reduces_apart}
use Rattle.lrrows.proofs.ReadableGraphs.{readable_graph}
use Rattle.lrcells.proofs.OutlinedTables.{of_answer}
use Rattle.lrcells.proofs.statetable.StateTable.new.Goals as goal

pub read-requires : goal.read-requires
read-requires g c = record { graph = readable_graph c.args.grm.now c.args.sg.now c.in_order.ensures.shape c.requires.graph }

pub returns-clause-reduces : goal.returns-clause-reduces
returns-clause-reduces g c =
    of_answer c.read.result (λ b. reduces_apart c.args.grm.now c.args.sg.now b c.in_order.ensures.shape c.requires.graph) c.read.ensures.table
