use Rattle.std.proofs.Common.{◌<◌, ℕ, get_or, take}
use Rattle.lrspec.specs.merging.WeakCompatibility.{SameItems, Clash}
use Rattle.lritems.specs.Gotos.{items_in}
use Rattle.lrplacing.specs.Construction.{core_at}
use Rattle.lrplacing.specs.ChosenPlaces.{HoldsOfNone, IsCompatible}
use Rattle.lrplacing.proofs.placing.find_compatible.Given as goal

abbrev pub invariant-loop-k : goal.invariant-loop-k
invariant-loop-k g l =
    let goto = items_in g.T.IndexStorage.number l.goto in
    record {
      clash :
          (i d : ℕ) → i < l.k-index → SameItems (core_at l.drafts (get_or l.candidates i d)) goto
          → Clash (core_at l.drafts (get_or l.candidates i d)) goto;
      none : HoldsOfNone (IsCompatible l.drafts goto) (take l.k-index l.candidates);
    }
