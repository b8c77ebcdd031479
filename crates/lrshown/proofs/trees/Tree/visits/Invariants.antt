-- what is left goes on with those so far
use Rattle.std.proofs.Common.{◌≡◌, ◌++◌, map, drop}
use Rattle.lrshown.proofs.Rows.{visits_by}
use Rattle.lrshown.proofs.trees.Tree.visits.Given as goal

abbrev pub invariant-loop-number : goal.invariant-loop-number
invariant-loop-number l =
    let entered = map (λ v. v.items) l.self.entered.items in
    visits_by 0 l.self.nodes.items entered ≡ l.visits.items ++ visits_by l.number (drop l.number l.self.nodes.items) (drop l.number entered)
