use Rattle.lrtable.proofs.BuiltTables.{built_answer, refused_answer, exact_answer}
use Rattle.lrtable.proofs.table_of.Goals as goal

pub new-requires : goal.new-requires
new-requires g c = record { graph = c.requires.merged.graph }

pub returns-clause-built : goal.returns-clause-built
returns-clause-built g c =
    let made = c.new.ensures in
    built_answer c.args.grm.now c.args.graph.now c.new.result c.in_order.ensures.shape c.requires.merged made.table made.reduces made.entries

pub returns-clause-headline : goal.returns-clause-headline
returns-clause-headline g c =
    exact_answer g.T.IndexStorage.number g.T.IndexStorage.MAX c.args.grm.now c.args.graph.now c.new.result c.in_order.ensures.shape
    c.requires.merged c.requires.chain c.new.ensures.table c.new.ensures.refused

pub returns-clause-refused : goal.returns-clause-refused
returns-clause-refused g c =
    refused_answer g.T.IndexStorage.number g.T.IndexStorage.MAX c.args.grm.now c.args.graph.now c.new.result c.in_order.ensures.shape
    c.requires.merged c.requires.chain c.new.ensures.refused
