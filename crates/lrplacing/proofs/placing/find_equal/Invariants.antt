use Rattle.std.proofs.Common.{take}
use Rattle.lritems.specs.Gotos.{items_in}
use Rattle.lrplacing.specs.ChosenPlaces.{HoldsOfNone, IsEqual}
use Rattle.lrplacing.proofs.placing.find_equal.Given as goal

abbrev pub invariant-loop-k : goal.invariant-loop-k
invariant-loop-k g l = HoldsOfNone (IsEqual l.drafts (items_in g.T.IndexStorage.number l.goto)) (take l.k-index l.candidates)
