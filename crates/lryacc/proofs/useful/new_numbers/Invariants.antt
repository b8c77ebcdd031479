use Rattle.std.proofs.Common.{◌≡◌, ◌≤◌, is_some, map, take}
use Rattle.std.specs.List.{filter_map, range_with_len}
use Rattle.lryacc.proofs.useful.new_numbers.Given as goal

abbrev pub invariant-loop-is_kept : goal.invariant-loop-is_kept
invariant-loop-is_kept l = record {
  numbers : filter_map (λ number. number) l.numbers.items ≡ range_with_len 0 l.next;
  rules : map is_some l.numbers.items ≡ take l.is_kept-index l.kept.found.items;
  counted : l.next ≤ l.is_kept-index;
}
