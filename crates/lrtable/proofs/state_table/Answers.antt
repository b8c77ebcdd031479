use Rattle.std.proofs.Common.{arith}
use Rattle.lrspec.proofs.texts.ResultsPassedOn.{error_passed}
use Rattle.lrtable.specs.Refusals.{IsBuildRefusal, IsExactError}
use Rattle.lrtable.proofs.BuildRefusals.{chain_of_count, exact_without_graph, error_answered}
use Rattle.lrtable.proofs.state_table.Goals as goal

pub table_of_its_outline-requires : goal.table_of_its_outline-requires
table_of_its_outline-requires g c =
    let (h, merged, outline) = c.in_ok-outline.ensures.merged in
    let counts = c.in_ok-outline.ensures.counts in
    (h, outline, merged, chain_of_count c.args.grm.now _ _ counts.chain (omega (arith, counts.states, outline.length_is)))

pub returns-clause-below : goal.returns-clause-below
returns-clause-below g c = omega (arith, c.in_ok-table.ensures.rows, c.in_ok-table.ensures.below)

pub returns-clause-counts : goal.returns-clause-counts
returns-clause-counts g c = rw c.in_ok-table.ensures.rows c.in_ok-outline.ensures.counts

-- the outline has no table
pub returns-in_err-table-clause-refused : goal.returns-in_err-table-clause-refused
returns-in_err-table-clause-refused g c =
    error_passed (IsBuildRefusal g.T.IndexStorage.number g.T.IndexStorage.MAX c.args.grm.now) _ c.in_err-table.field-0.0 c.from_residual-in_err-table.ensures.1
    c.in_err-table.ensures.refused

pub returns-in_err-table-clause-headline : goal.returns-in_err-table-clause-headline
returns-in_err-table-clause-headline g c =
    error_answered _ (IsExactError c.args.grm.now) _ c.in_err-table.field-0.0 c.from_residual-in_err-table.ensures.1 c.in_err-table.ensures.headline

pub returns-in_err-outline-clause-headline : goal.returns-in_err-outline-clause-headline
returns-in_err-outline-clause-headline g c =
    error_answered _ (IsExactError c.args.grm.now) _ c.in_err-outline.field-0.0 c.from_residual.ensures.1
    (exact_without_graph _ c.args.grm.now c.in_err-outline.field-0.0 c.in_err-outline.ensures.refused)
