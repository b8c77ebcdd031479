use Rattle.std.proofs.Common.{refl, append_assoc, append-nil}
use Rattle.lrrows.proofs.ReducedRows.{numbers_upwards}
use Rattle.lrrows.proofs.rows.reduces_of.Goals as goal

pub loop-pidx-init : goal.loop-pidx-init
loop-pidx-init g c = rw c.new-reduces.ensures.items refl

pub loop-pidx-preserved : goal.loop-pidx-preserved
loop-pidx-preserved g c =
    let steps = c.in-Some.ensures.steps in
    rw (c.in_ok-push.ensures.items, append_assoc) (rw steps at c.loop-pidx.invariant)

pub returns : goal.returns
returns g c =
    let number = g.T.IndexStorage.number in
    let ordered = g.met.T.IndexStorage.ordered in
    let given = c.into_iter-pidx-iterator.ensures.into_iter_gives in
    let all = rw (c.in-None.ensures.steps.0, append-nil, given.0) at c.loop-pidx.invariant in
    rw all record { upwards = numbers_upwards (λ q. number q.0) (λ a b. g.T.Ord.cmp a.0 b.0) (λ a b. ordered a.0 b.0) c.in_ok-found.found.keys given.4; members = c.in_ok-found.ensures }
