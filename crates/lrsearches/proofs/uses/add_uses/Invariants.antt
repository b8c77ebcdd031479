-- the items so far are in their rows
use Rattle.std.proofs.Common.{◌≡◌, ℕ, ◌<◌, length}
use Rattle.lrsearches.specs.StoredUses.{HasUseOf, KeepsUses}
use Rattle.lrsearches.proofs.uses.add_uses.Given as goal

abbrev pub invariant-loop-place : goal.invariant-loop-place
invariant-loop-place g l =
    let number = g.T.IndexStorage.number in
    record {
      count : length l.uses.items ≡ length l.fn.uses.items;
      kept : KeepsUses number l.fn.uses.items l.uses.items;
      added : (d : ℕ) → d < l.place → HasUseOf number l.grm l.uses.items (number l.pidx.0) d;
    }
