-- what is above those so far is asked
use Rattle.std.proofs.Common.{drop}
use Rattle.std.specs.Prelude.{Contains}
use Rattle.lrexchange.specs.Asked.{KeepsPositions, Asks, deepened}
use Rattle.lrexchange.specs.StoredActs.{act_of}
use Rattle.lrexchange.specs.StoredPositions.{position_of, positions_of, belows_of}
use Rattle.lrexchange.proofs.AskedInTurn.{AllBut}
use Rattle.lrexchange.proofs.acts.ask_above_all.Given as goal

abbrev pub invariant-loop-below : goal.invariant-loop-below
invariant-loop-below l =
    let a = position_of l.position in
    record {
      kept : KeepsPositions (positions_of l.fn.asked.items) (positions_of l.asked.items);
      asked : AllBut (λ e. Asks l.grm (Contains (positions_of l.asked.items)) (act_of l.act) a (deepened a e.0 e.1)) (belows_of l.belows)
          (belows_of (drop l.below-index l.belows));
    }
