-- the tokens so far
use Rattle.std.proofs.Common.{◌≡◌, ◌++◌}
use Rattle.lrflat.specs.Flat.{action_row}
use Rattle.lrflat.proofs.flat.push_actions.Given as goal

abbrev pub invariant-loop-token : goal.invariant-loop-token
invariant-loop-token g l = l.flat.items ≡ l.initial.flat.items ++ action_row l.table l.token (g.T.IndexStorage.number l.state.0)
