-- the column of the place in hand is known, as those of the places so far
use Rattle.std.proofs.Common.{◌-◌, length}
use Rattle.std.specs.Prelude.{All}
use Rattle.lrdiagnostics.specs.KnownColumns.{IsKnown}
use Rattle.lrdiagnostics.proofs.columns.known_columns.Given as goal

abbrev pub invariant-loop-here : goal.invariant-loop-here
invariant-loop-here l = record {
  here : IsKnown l.bytes l.here.at l.here.column;
  all : All (λ known. IsKnown l.bytes known.at known.column) l.all.items;
}

abbrev pub decreases-loop-here : goal.decreases-loop-here
decreases-loop-here l = length l.bytes - l.here.at
