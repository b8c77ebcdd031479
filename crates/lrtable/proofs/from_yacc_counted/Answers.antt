use Rattle.lrspec.proofs.texts.ResultsPassedOn.{error_passed}
use Rattle.lrtable.specs.Refusals.{IsBuildRefusal, IsExactError}
use Rattle.lrtable.proofs.BuildRefusals.{chain_of_count, exact_without_graph, error_answered}
use Rattle.lrtable.proofs.from_yacc_counted.Goals as goal

pub table_of-requires-clause-chain : goal.table_of-requires-clause-chain
table_of-requires-clause-chain g c =
    let counts = c.in_ok-graph.ensures.counts in chain_of_count c.args.grm.now _ _ counts.chain counts.states

-- the graph has no table
pub returns-in_err-table-clause-refused : goal.returns-in_err-table-clause-refused
returns-in_err-table-clause-refused g c =
    error_passed (IsBuildRefusal g.T.IndexStorage.number g.T.IndexStorage.MAX c.args.grm.now) _ c.in_err-table.field-0.0 c.from_residual-in_err-table.ensures.1
    c.in_err-table.ensures.refused

pub returns-in_err-table-clause-headline : goal.returns-in_err-table-clause-headline
returns-in_err-table-clause-headline g c =
    error_answered _ (IsExactError c.args.grm.now) _ c.in_err-table.field-0.0 c.from_residual-in_err-table.ensures.1 c.in_err-table.ensures.headline

pub returns-in_err-graph-clause-headline : goal.returns-in_err-graph-clause-headline
returns-in_err-graph-clause-headline g c =
    error_answered _ (IsExactError c.args.grm.now) _ c.in_err-graph.field-0.0 c.from_residual.ensures.1
    (exact_without_graph _ c.args.grm.now c.in_err-graph.field-0.0 c.in_err-graph.ensures.refused)

pub returns-clause-counts : goal.returns-clause-counts
returns-clause-counts g c = c.in_ok-graph.ensures.counts
