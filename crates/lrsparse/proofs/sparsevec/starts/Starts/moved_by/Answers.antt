use Rattle.std.proofs.Common.{arith}
use Rattle.lrsparse.proofs.sparsevec.starts.Starts.moved_by.Goals as goal

pub returns-then-place-len : goal.returns-then-place-len
returns-then-place-len c = λ words are.
    c.moved.ensures words (rw (← c.index.ensures) at (are c.args.place c.index.result.now (omega (arith, c.if-place-len.true))))
