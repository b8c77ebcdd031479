-- the complete item at hand has a bit for each token
use Rattle.std.proofs.Common.{◌≡◌, length}
use Rattle.std.proofs.lemmas.List.Elements.{All-get_or}
use Rattle.std.proofs.lemmas.List.{take_all}
use Rattle.lrrows.specs.ReduceReduce.{reduce_reduce_by_item}
use Rattle.lrrows.specs.StoredLists.{stored_reduce_reduces, least_of}
use Rattle.lrrows.proofs.RowTurns.{row_begun, listed_turn}
use Rattle.lrrows.proofs.conflicts.push_reduce_reduce.Goals as goal

pub push_reduce_reduce_with-requires-clause-bits : goal.push_reduce_reduce_with-requires-clause-bits
push_reduce_reduce_with-requires-clause-bits g c =
    let h = All-get_or (λ e. length e.1.now ≡ length c.args.least.now) c.args.completes.now c.loop-pidx.pidx-index c.loop-pidx-item.result c.loop-pidx-test.true c.requires.bits in
    rw (← c.loop-pidx-item.is) at h

pub push_reduce_reduce_with-requires-clause-tokens : goal.push_reduce_reduce_with-requires-clause-tokens
push_reduce_reduce_with-requires-clause-tokens g c = c.requires.tokens

pub loop-pidx-init : goal.loop-pidx-init
loop-pidx-init g c = row_begun (stored_reduce_reduces g.T.IndexStorage.number c.args.conflicts.now.items)

pub loop-pidx-preserved : goal.loop-pidx-preserved
loop-pidx-preserved g c =
    let number = g.T.IndexStorage.number in
    listed_turn c.args.completes.now (λ e. (number e.0.0, e.1.now)) (reduce_reduce_by_item (least_of number c.args.least.now) (number c.args.stidx.0))
    c.loop-pidx.pidx-index c.loop-pidx-item.result (stored_reduce_reduces number c.args.conflicts.now.items) (stored_reduce_reduces number c.loop-pidx.conflicts.items)
    (stored_reduce_reduces number c.push_reduce_reduce_with.new.conflicts.items) c.loop-pidx-test.true c.loop-pidx-item.is c.loop-pidx.invariant
    c.in_ok-push_reduce_reduce_with.ensures.entries

pub returns : goal.returns
returns g c =
    record { entries = rw (take_all c.loop-pidx.pidx-index c.args.completes.now c.loop-pidx-test.false) at c.loop-pidx.invariant }
