use Rattle.std.specs.String.{string_bytes}
use Rattle.lrcommand.proofs.PrintedTexts.{conflicts_printed, no_conflicts_printed}
use Rattle.lrcommand.proofs.printing.conflicts_text.Goals as goal

pub returns-in-Some-clause-text : goal.returns-in-Some-clause-text
returns-in-Some-clause-text c =
    let built = c.in_ok-graph in
    let told = c.in-Some.ensures in
    let text = c.in_ok-pp-in-Some in
    conflicts_printed c.args.grm.now built.table c.in-Some.conflicts.now (string_bytes text.field-0)
    (record { graph = built.graph; built = built.ensures.built; headline = built.ensures.headline }) built.ensures.built.accepts told.none told.lists text.ensures.text

pub returns-clause-text : goal.returns-clause-text
returns-clause-text c =
    let built = c.in_ok-graph in
    let text = c.in_ok-from_str-in-None in
    no_conflicts_printed c.args.grm.now built.table (string_bytes text.field-0)
    (record { graph = built.graph; built = built.ensures.built; headline = built.ensures.headline }) built.ensures.built.accepts c.in-None.ensures.none text.ensures.ok
