-- a reduction by the start production doesn't contend
use Rattle.std.proofs.lemmas.Result.{IfOk-weaker}
use Rattle.lrconflicts.specs.StoredMoves.{move_of}
use Rattle.lrgrammar.specs.Symbols.{number_of}
use Rattle.lrlosses.specs.declared.exactness.Exactness.TheVariants as known
use Rattle.lrkept.proofs.KeptCells.{by_start}
use Rattle.lrkept.proofs.keeping.known_of.Goals as goal

pub returns-then-is_by_start-clause-known : goal.returns-then-is_by_start-clause-known
returns-then-is_by_start-clause-known c =
    by_start known.Exact c.args.automaton.grm.now c.args.automaton.graph.now c.args.automaton.table.now c.args.cell.0.0 c.args.cell.1.0 (move_of number_of c.args.theirs)
    (c.is_by_start.ensures c.if-is_by_start.true)

pub returns-clause-known : goal.returns-clause-known
returns-clause-known c = IfOk-weaker c.kept_as.result _ _ (λ e k contends. k) c.kept_as.ensures.known
