use Rattle.std.proofs.Common.{◌∙◌, sym}
use Rattle.std.proofs.lemmas.Result.{IfOk-weaker, IfErr-weaker}
use Rattle.lrtable.proofs.BuiltTables.{built_answer, refused_answer, exact_answer}
use Rattle.lrtable.proofs.table_of_its_outline.Goals as goal

pub table_of_outline-requires : goal.table_of_outline-requires
table_of_outline-requires g c =
    let (h, outline, merged, chain) = c.requires in record { outline = (h, merged.graph, outline) }

pub returns-clause-built : goal.returns-clause-built
returns-clause-built g c =
    let (h, outline, merged, chain) = c.requires in
    let made = c.table_of_outline.ensures in
    let table = IfOk-weaker c.table_of_outline.result _ _ (λ b t. t h outline) made.table in
    IfOk-weaker c.table_of_outline.result _ _ (λ b built. (h, built))
    (built_answer c.args.grm.now h c.table_of_outline.result c.in_order.ensures.shape merged table made.reduces made.entries)

pub returns-clause-rows : goal.returns-clause-rows
returns-clause-rows g c =
    let (h, outline, merged, chain) = c.requires in
    IfOk-weaker c.table_of_outline.result _ _ (λ b t. (t h outline).action_grid.rows ∙ sym outline.length_is) c.table_of_outline.ensures.table

pub returns-clause-headline : goal.returns-clause-headline
returns-clause-headline g c =
    let (h, outline, merged, chain) = c.requires in
    let made = c.table_of_outline.ensures in
    exact_answer g.T.IndexStorage.number g.T.IndexStorage.MAX c.args.grm.now h c.table_of_outline.result c.in_order.ensures.shape merged chain
    (IfOk-weaker c.table_of_outline.result _ _ (λ b t. t h outline) made.table) (IfErr-weaker c.table_of_outline.result _ _ (λ e r. r h outline) made.refused)

pub returns-clause-refused : goal.returns-clause-refused
returns-clause-refused g c =
    let (h, outline, merged, chain) = c.requires in
    refused_answer g.T.IndexStorage.number g.T.IndexStorage.MAX c.args.grm.now h c.table_of_outline.result c.in_order.ensures.shape merged chain
    (IfErr-weaker c.table_of_outline.result _ _ (λ e r. r h outline) c.table_of_outline.ensures.refused)
