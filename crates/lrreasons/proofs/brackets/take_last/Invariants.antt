use Rattle.std.proofs.Common.{◌≡◌, ◌-◌, map, take, drop, length}
use Rattle.std.specs.String.{string_bytes}
use Rattle.lrreasons.specs.Brackets.{joined}
use Rattle.lrreasons.specs.StoredForms.{trees_of}
use Rattle.lrreasons.proofs.brackets.take_last.Given as goal

abbrev pub invariant-loop : goal.invariant-loop
invariant-loop l = record {
  left : trees_of l.trees.items ≡ take (length l.fn.trees.items - l.counter) (trees_of l.fn.trees.items);
  words : map string_bytes l.words.items ≡ joined (drop (length l.fn.trees.items - l.counter) (trees_of l.fn.trees.items));
}
