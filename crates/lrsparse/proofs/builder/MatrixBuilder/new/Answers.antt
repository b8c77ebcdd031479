use Rattle.std.proofs.Common.{arith}
use Rattle.lrsparse.proofs.builder.MatrixBuilder.new.Goals as goal

pub returns-clause-built : goal.returns-clause-built
returns-clause-built c = record {
  placed = rw c.new-3.ensures.items c.new.ensures.placed;
  starts = c.new-2.ensures c.new.result.owned.items;
  sums = rw c.new-3.ensures.items (λ k d l. absurd (omega arith));
}
