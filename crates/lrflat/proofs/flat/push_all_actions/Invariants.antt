-- the states so far
use Rattle.std.proofs.Common.{◌≡◌, ◌++◌}
use Rattle.std.specs.List.{flat_map, range_with_len}
use Rattle.lrflat.specs.Flat.{action_row}
use Rattle.lrflat.proofs.flat.push_all_actions.Given as goal

abbrev pub invariant-loop-state : goal.invariant-loop-state
invariant-loop-state g l = l.flat.items ≡ l.initial.flat.items ++ flat_map (action_row l.table l.tokens) (range_with_len 0 l.state)
