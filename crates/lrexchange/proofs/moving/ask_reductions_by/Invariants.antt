-- what the productions so far ask is asked
use Rattle.std.proofs.Common.{map, drop}
use Rattle.std.specs.Prelude.{Contains}
use Rattle.lrexchange.specs.Asked.{KeepsPositions}
use Rattle.lrexchange.specs.Exchanges.{TakesReduction}
use Rattle.lrexchange.specs.StoredPositions.{position_of, positions_of}
use Rattle.lrexchange.proofs.AskedInTurn.{AllBut}
use Rattle.lrexchange.proofs.moving.ask_reductions_by.Given as goal

abbrev pub invariant-loop-production : goal.invariant-loop-production
invariant-loop-production l =
    record {
      kept : KeepsPositions (positions_of l.fn.asked.items) (positions_of l.asked.items);
      asked : AllBut (λ p. TakesReduction l.grm l.graph (Contains (positions_of l.asked.items)) p (position_of l.position))
          (map (λ p. p.0) l.productions) (map (λ p. p.0) (drop l.production-index l.productions));
    }
