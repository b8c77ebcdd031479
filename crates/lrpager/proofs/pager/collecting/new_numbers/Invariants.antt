use Rattle.std.proofs.Common.{◌≡◌, ℕ, ◌<◌, ◌≤◌, length, get_or}
use Rattle.lrpager.specs.Collecting.{new_number}
use Rattle.lrpager.proofs.pager.collecting.new_numbers.Given as goal

abbrev pub invariant-loop-k : goal.invariant-loop-k
invariant-loop-k l = record {
  len : length l.numbers.items ≡ l.k;
  next : l.next ≡ new_number l.marks l.k;
  most : l.next ≤ l.k;
  numbers : (j : ℕ) → j < l.k → get_or l.numbers.items j 0 ≡ new_number l.marks j;
}
