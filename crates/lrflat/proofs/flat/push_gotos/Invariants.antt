-- the rules so far
use Rattle.std.proofs.Common.{◌≡◌, ◌++◌}
use Rattle.lrflat.specs.Flat.{goto_row}
use Rattle.lrflat.proofs.flat.push_gotos.Given as goal

abbrev pub invariant-loop-rule : goal.invariant-loop-rule
invariant-loop-rule g l = l.flat.items ≡ l.initial.flat.items ++ goto_row l.table l.rule (g.T.IndexStorage.number l.state.0)
