use Rattle.std.proofs.Common.{◌≡◌, map}
use Rattle.std.specs.List.{range_with_len}
use Rattle.lrtree.specs.Pieces.{pieces_of}
use Rattle.lrtree.specs.StoredPieces.{pieces_stored}
use Rattle.lrtree.proofs.pieces.Pieces.new.Given as goal

abbrev pub invariant-loop-prod : goal.invariant-loop-prod
invariant-loop-prod g l = pieces_stored l.nodes.items ≡ map (pieces_of l.grm) (range_with_len 0 l.prod)
