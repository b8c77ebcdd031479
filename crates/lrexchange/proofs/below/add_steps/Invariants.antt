-- the steps over the edges so far are added
use Rattle.std.proofs.Common.{◌∷◌, drop}
use Rattle.std.specs.Prelude.{Contains}
use Rattle.lrsearches.specs.StoredWays.{row_of}
use Rattle.lrgrammar.specs.Symbols.{number_of}
use Rattle.lrexchange.specs.Asked.{KeepsBelows}
use Rattle.lrexchange.specs.StoredPositions.{symbols_of, belows_of}
use Rattle.lrexchange.proofs.AskedInTurn.{AllBut}
use Rattle.lrexchange.proofs.below.add_steps.Given as goal

abbrev pub invariant-loop-edge : goal.invariant-loop-edge
invariant-loop-edge l =
    record {
      kept : KeepsBelows (belows_of l.fn.belows.items) (belows_of l.belows.items);
      added : AllBut (λ e. Contains (belows_of l.belows.items) (e.1, e.0 ∷ symbols_of l.symbols)) (row_of number_of l.row)
          (row_of number_of (drop l.edge-index l.row));
    }
