use Rattle.std.specs.String.{string_bytes}
use Rattle.lrcommand.proofs.PrintedTexts.{core_printed}
use Rattle.lrcommand.proofs.printing.core_text.Goals as goal

pub returns-clause-text : goal.returns-clause-text
returns-clause-text c =
    let built = c.in_ok-graph.ensures.built in
    let text = c.in_ok-text in
    core_printed c.args.grm.now c.in_ok-graph.graph (string_bytes text.text) (string_bytes c.in_ok-ended.field-0)
    (record { merged = built.merged; order = text.ensures.order }) built.accepts
    text.ensures.text c.in_ok-ended.ensures
