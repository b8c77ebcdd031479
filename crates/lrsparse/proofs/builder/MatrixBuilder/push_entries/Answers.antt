use Rattle.std.proofs.Common.{◌≡◌, length, arith}
use Rattle.lrsparse.specs.Listed.{listed}
use Rattle.lrsparse.specs.Entries.{row_with}
use Rattle.lrsparse.proofs.RowsInList.{row_added}
use Rattle.lrsparse.proofs.builder.MatrixBuilder.push_entries.Goals as goal

pub returns-clause-cells : goal.returns-clause-cells
returns-clause-cells c =
    let b = c.args.self.now in
    let row : c.len.result ≡ length b.displacements.items = omega arith in
    let more = c.in_ok-push.ensures.items in
    rw (more, c.in_ok-displacement.ensures.empty) (row_added (listed b.places.list) (listed c.place_row.new.places.list) b.places.empty b.cols c.len.result
    c.in_ok-displacement.displacement b.displacements.items (row_with b.places.empty b.cols c.args.entries.now)
    row (c.in_ok-displacement.ensures.numbers b.cols) c.in_ok-displacement.ensures.others)
