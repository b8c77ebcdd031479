use Rattle.std.proofs.Common.{length-set, sym, ◌∙◌}
use Rattle.lrgrammar.specs.Symbols.{symbol_of}
use Rattle.lrplacing.proofs.DraftLists.{stays_put, edge_more, edge_found, on_ok}
use Rattle.lrplacing.proofs.placing.link.Goals as goal

pub returns-clause-len : goal.returns-clause-len
returns-clause-len g c = length-set c.args.drafts.now.items c.args.from c.add_edge.new.self

pub returns-clause-stays : goal.returns-clause-stays
returns-clause-stays g c =
    stays_put c.args.drafts.now.items c.args.from c.index_mut.result.now c.add_edge.new.self c.requires.from c.index_mut.ensures.value c.add_edge.ensures.core
    c.add_edge.ensures.closed

pub returns-clause-edges : goal.returns-clause-edges
returns-clause-edges g c =
    on_ok c.add_edge.result
    (edge_more c.args.drafts.now.items c.args.from c.index_mut.result.now c.add_edge.new.self c.requires.from c.index_mut.ensures.value
    (symbol_of g.T.IndexStorage.number c.args.symbol) c.args.to)
    c.add_edge.ensures.edge

pub add_edge-requires : goal.add_edge-requires
add_edge-requires g c =
    sym (edge_found c.args.drafts.now.items c.args.from c.index_mut.result.now c.requires.from c.index_mut.ensures.value (symbol_of g.T.IndexStorage.number c.args.symbol))
    ∙ c.requires.free
