-- what the positions so far ask is asked
use Rattle.std.proofs.Common.{drop}
use Rattle.std.specs.Prelude.{Contains}
use Rattle.lrexchange.specs.Exchanges.{EachOwn}
use Rattle.lrexchange.specs.StoredPositions.{positions_of}
use Rattle.lrexchange.proofs.AskedInTurn.{AllBut}
use Rattle.lrexchange.proofs.beginning.ask_all_own.Given as goal

abbrev pub invariant-loop-position : goal.invariant-loop-position
invariant-loop-position l =
    AllBut (λ a. EachOwn l.grm l.graph (Contains (positions_of l.asked.items)) l.production.0 a) (positions_of l.positions)
    (positions_of (drop l.position-index l.positions))
