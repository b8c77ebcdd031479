use Rattle.std.proofs.lemmas.List.Sorted.{All-permutation}
use Rattle.lrreport.specs.Causes.{AreApart, HasKind, IsMet, IsOneCause, IsOneConflict}
use Rattle.lrreport.proofs.OneCause.{in_order, states_in_order}
use Rattle.lrreport.proofs.OneConflict.{apart_turns}
use Rattle.lrreport.proofs.PairsInOrder.{pairs_in_order}
use Rattle.lrreport.proofs.conflicts.Checked.causes.Goals as goal

pub split-requires : goal.split-requires
split-requires c =
    let kind = HasKind c.args.self.now in
    let order = c.in_ok-put_in_order.ensures.order in
    record {
      met = rw c.as_slice.ensures.value (All-permutation IsMet _ _ order c.in_ok-met.ensures.met);
      kinds = rw c.as_slice.ensures.value (All-permutation kind _ _ order c.in_ok-met.ensures.kinds);
      together = rw c.as_slice.ensures.value c.in_ok-put_in_order.ensures.together;
    }

pub returns-clause-each : goal.returns-clause-each
returns-clause-each c =
    in_order _ _ _ _ c.put_in_order.ensures.order (rw c.as_slice.ensures.value at c.in_ok-causes.ensures.states) c.sort_by_key.ensures.permutation
    _ c.in_ok-met.ensures.whole

pub returns-clause-runs : goal.returns-clause-runs
returns-clause-runs c = λ grouped.
    rw (← c.in_ok-met.ensures.runs grouped)
    (states_in_order _ _ _ _ c.put_in_order.ensures.order (rw c.as_slice.ensures.value at c.in_ok-causes.ensures.states) c.sort_by_key.ensures.permutation)

pub returns-clause-alike : goal.returns-clause-alike
returns-clause-alike c = All-permutation IsOneCause _ _ c.sort_by_key.ensures.permutation c.in_ok-causes.ensures.alike

pub returns-clause-kind : goal.returns-clause-kind
returns-clause-kind c = λ grouped.
    All-permutation (IsOneConflict c.args.self.now) _ _ c.sort_by_key.ensures.permutation (c.in_ok-causes.ensures.kind grouped)

pub returns-clause-apart : goal.returns-clause-apart
returns-clause-apart c = λ grouped.
    let checked = c.args.self.now in
    pairs_in_order (AreApart checked) (apart_turns checked) _ _ c.sort_by_key.ensures.permutation (c.in_ok-causes.ensures.apart grouped)
