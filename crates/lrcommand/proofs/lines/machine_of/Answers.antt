use Rattle.lrspec.proofs.texts.ResultsPassedOn.{error_passed}
use Rattle.lrtable.specs.Refusals.{IsBuildRefusal}
use Rattle.lrcommand.specs.Requests.{bytes_of, name_of}
use Rattle.lrcommand.specs.Printing.{max_index}
use Rattle.lrcommand.specs.Lines.{IsTableFault}
use Rattle.lrcommand.specs.declared.faults.Fault.TheVariants.{Build}
use Rattle.lrcommand.proofs.AnsweredLines.{has_table, some_meant}
use Rattle.lrcommand.proofs.lines.machine_of.Goals as goal

pub returns-clause-machine : goal.returns-clause-machine
returns-clause-machine c =
    let built = c.in_ok-_graph in
    has_table _ _ _ c.in_ok-grm.ensures.grammar
    (record { graph = built._graph; built = built.ensures.built; headline = built.ensures.headline }) built.ensures.built.accepts

pub returns-clause-table : goal.returns-clause-table
returns-clause-table c = c.in_ok-_graph.ensures.built.table_for

pub returns-in_err-_graph-clause-fault : goal.returns-in_err-_graph-clause-fault
returns-in_err-_graph-clause-fault c =
    let error = c.in_err-_graph.field-0.0 in
    error_passed (IsTableFault (bytes_of c.args.file) (name_of c.args.source)) _ (Build error) c.from_residual-in_err-_graph.ensures.1
    (some_meant (bytes_of c.args.file) c.in_ok-grm.grm (λ g. IsBuildRefusal (λ n. n) max_index g error) c.in_ok-grm.ensures.grammar c.in_err-_graph.ensures.refused)
