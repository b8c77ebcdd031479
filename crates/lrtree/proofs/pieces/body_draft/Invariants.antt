use Rattle.std.proofs.Common.{◌≡◌, ◌≤◌, length, map, drop}
use Rattle.lrgrammar.specs.Symbols.{symbol_of}
use Rattle.lrtree.specs.Pieces.{draft_of}
use Rattle.lrtree.specs.StoredPieces.{stored_draft}
use Rattle.lrtree.proofs.pieces.body_draft.Given as goal

abbrev pub invariant-loop-place : goal.invariant-loop-place
invariant-loop-place g l =
    (l.place ≤ length l.body) × (stored_draft l.draft ≡ draft_of l.grm (drop l.place (map (symbol_of g.T.IndexStorage.number) l.body)))

abbrev pub decreases-loop-place : goal.decreases-loop-place
decreases-loop-place g l = l.place
