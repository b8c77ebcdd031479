use Rattle.lrspec.specs.tables.LrTables.{HasNoPrecedences}
use Rattle.lrfindings.proofs.FoundInCells.{plain_if_false}
use Rattle.lrfindings.proofs.FoundNothing.{plain_answer}
use Rattle.lrfindings.proofs.findings.tabled.Goals as goal

pub returns-then-not-has_precedences-clause-plain : goal.returns-then-not-has_precedences-clause-plain
returns-then-not-has_precedences-clause-plain c =
    plain_answer c.from_yacc_if_contested.result (HasNoPrecedences c.args.grm.now)
    (plain_if_false c.args.grm.now c.has_precedences.result c.has_precedences.ensures c.if-not-has_precedences.true)
