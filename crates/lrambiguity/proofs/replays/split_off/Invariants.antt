use Rattle.std.proofs.Common.{◌≡◌, ◌≤◌, ◌+◌, ◌++◌, reverse, vec_len, vec_capacity}
use Rattle.lrambiguity.proofs.replays.split_off.Given as goal

abbrev pub invariant-loop : goal.invariant-loop
invariant-loop g l = record {
  taken : vec_len l.children ≡ l.counter;
  room : l.count ≤ vec_capacity l.children;
  left : vec_len l.trees + l.counter ≡ vec_len l.fn.trees;
  trees : l.fn.trees.items ≡ l.trees.items ++ reverse l.children.items;
}
