use Rattle.lrlosses.specs.Walks.{HasCome}
use Rattle.lrlosses.proofs.walks.Walk.go_on.Given as goal

-- as many steps as were made led to where it is
abbrev pub invariant-loop-made : goal.invariant-loop-made
invariant-loop-made g l = HasCome g.T.IndexStorage.number l.grm l.table l.text l.made l.self
