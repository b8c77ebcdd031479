use Rattle.lrsparse.proofs.StartsKept.{nowhere_of_more}
use Rattle.lrsparse.proofs.sparsevec.starts.Start.raised.Goals as goal

pub returns-then-is_among : goal.returns-then-is_among
returns-then-is_among c = λ words own least.
    let start = c.args.self.now in
    nowhere_of_more words start.columns c.args.columns.now start.displacement (c.is_among.ensures c.if-is_among.true) own
