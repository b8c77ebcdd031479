use Rattle.std.proofs.lemmas.List.{length-map}
use Rattle.lrrows.proofs.RowsByOne.{row_by_one, row_by_others}
use Rattle.lrrows.proofs.rows.reduces_by_one.Goals as goal

pub returns-then-reduces-eq1 : goal.returns-then-reduces-eq1
returns-then-reduces-eq1 g c = row_by_one c.args.row.now _ c.requires.reduces _ c.reduces_alone.result (length-map c.args.reduces.now (λ p. g.T.IndexStorage.number p.0)) c.if-reduces-eq1.true c.reduces_alone.ensures

pub returns-else-reduces-eq1 : goal.returns-else-reduces-eq1
returns-else-reduces-eq1 g c = row_by_others c.args.row.now _ c.requires.reduces _ (length-map c.args.reduces.now (λ p. g.T.IndexStorage.number p.0)) c.if-reduces-eq1.false
