use Rattle.std.proofs.Common.{ℕ, drop}
use Rattle.lritems.specs.ItemsOf.{HaveBits}
use Rattle.lritems.specs.Gotos.{items_in, listed_in}
use Rattle.lritems.specs.Merging.{HaveSameKeys}
use Rattle.lritems.proofs.GotoItems.{items_shown}
use Rattle.lritems.proofs.MergingUnderway.{IsMerging}
use Rattle.lritems.proofs.merging.weakly_merge.Given as goal

abbrev pub invariant-loop-k : goal.invariant-loop-k
invariant-loop-k g l =
    let number = g.T.IndexStorage.number in
    let a = l.fn.core in
    let b = items_in number l.other in
    let left = items_shown number (λ r. r.now) (drop l.k (listed_in l.other)) in
    record {
      keys : HaveSameKeys b l.core;
      merging : (n : ℕ) × HaveBits n a × HaveBits n b × IsMerging n a b left l.core l.changed;
    }
