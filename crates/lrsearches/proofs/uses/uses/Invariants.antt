-- the items of the productions so far are in their rows
use Rattle.std.proofs.Common.{◌≡◌, ℕ, ◌<◌, length}
use Rattle.lrsearches.specs.StoredUses.{HasUsesOf}
use Rattle.lrsearches.proofs.uses.uses.Given as goal

abbrev pub invariant-loop-number : goal.invariant-loop-number
invariant-loop-number g l =
    let number = g.T.IndexStorage.number in
    record {
      rules : length l.uses.items ≡ length l.grm.rule_names;
      added : (p : ℕ) → p < l.number → HasUsesOf number l.grm l.uses.items p;
    }
