use Rattle.std.proofs.Common.{arith}
use Rattle.lrsparse.proofs.sparsevec.owned.own_columns.Goals as goal

pub overflow_add-displacement : goal.overflow_add-displacement
overflow_add-displacement c = omega (arith, c.requires.within c.loop-column.column-index c.loop-column-test.true)
