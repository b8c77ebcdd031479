-- the rows so far are built, and the cells of those behind them are left
use Rattle.std.proofs.Common.{◌≡◌, ◌++◌, length}
use Rattle.lrsparse.specs.Building.{so_far, IsBuilt}
use Rattle.lrsparse.specs.Matrix.{HasRows}
use Rattle.lrsparse.proofs.sparsevec.SparseVec.from.Given as goal

abbrev pub invariant-loop-rest : goal.invariant-loop-rest
invariant-loop-rest l = record {
  rows : HasRows l.cols (length l.rest);
  built : IsBuilt l.builder;
  cols : (so_far l.builder).cols ≡ l.cols;
  cells : (so_far l.builder).cells ++ l.rest ≡ l.cells;
}

abbrev pub decreases-loop-rest : goal.decreases-loop-rest
decreases-loop-rest l = length l.rest
