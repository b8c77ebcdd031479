use Rattle.lrambiguity.proofs.FoldSteps.{HasMade}
use Rattle.lrambiguity.proofs.derivations.derives.Given as goal

abbrev pub invariant-loop-action : goal.invariant-loop-action
invariant-loop-action g l = HasMade g.T.IndexStorage.number l.grm l.symbols l.moves l.action-index l.fold
