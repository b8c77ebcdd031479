use Rattle.std.proofs.Common.{◌+◌, ◌≤◌}
use Rattle.lryacc.specs.TypesRead.{IsTypeUpTo}
use Rattle.lryacc.proofs.grmtools_lexemes.type_end.Given as goal

abbrev pub invariant-loop-at : goal.invariant-loop-at
invariant-loop-at l = IsTypeUpTo l.is_second l.text l.from l.at l.brackets × (l.from + l.brackets ≤ l.at)
