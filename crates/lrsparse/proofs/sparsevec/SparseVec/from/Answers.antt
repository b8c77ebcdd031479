use Rattle.std.proofs.Common.{◌≡◌, ◌==◌, ◌<◌, ◌∙◌, ℕ, zero, suc, false, length, arith}
use Rattle.lrsparse.specs.Building.{so_far}
use Rattle.lrsparse.proofs.RowsInList.{next_row, fewer_rows, row_left}
use Rattle.lrsparse.proofs.sparsevec.SparseVec.from.Goals as goal

some_left : (n : ℕ) → false ≡ (n == 0) → 0 < n
some_left zero e = absurd cc
some_left (suc n) e = omega arith

pub split_at-requires : goal.split_at-requires
split_at-requires c = row_left c.args.cols (length c.loop-rest.rest.now) c.loop-rest.invariant.rows (some_left _ c.loop-rest-test.ensures)

pub loop-rest-preserved : goal.loop-rest-preserved
loop-rest-preserved c =
    record {
      rows = fewer_rows c.args.cols (length c.loop-rest.rest.now) (length c.split_at.result.1.now) c.loop-rest.invariant.rows c.split_at.ensures.back_len (some_left _ c.loop-rest-test.ensures);
      built = c.in_ok-push_row.ensures.built;
      cols = c.in_ok-push_row.ensures.cols ∙ c.loop-rest.invariant.cols;
      cells = next_row (so_far c.loop-rest.builder).cells (so_far c.push_row.new.self).cells c.args.cells.now c.loop-rest.rest.now c.split_at.result.0.now c.split_at.result.1.now
          c.loop-rest.invariant.cells c.split_at.ensures.by_index.0 c.in_ok-push_row.ensures.cells;
    }
