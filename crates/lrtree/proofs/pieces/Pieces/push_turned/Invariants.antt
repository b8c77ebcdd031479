use Rattle.std.proofs.Common.{◌≡◌, ℕ, List, ◌++◌, reverse}
use Rattle.lrgrammar.specs.StoredGrammar.{numbers_of}
use Rattle.lrspec.specs.texts.TreeTexts.{tree_text}
use Rattle.lrtree.specs.TreesOf.{IsOfTree}
use Rattle.lrtree.proofs.WrittenNodes.{Remains}
use Rattle.lrtree.proofs.PieceSteps.{pieces_open, weight}
use Rattle.lrtree.proofs.pieces.Pieces.push_turned.Given as goal

abbrev pub invariant-loop-pieces : goal.invariant-loop-pieces
invariant-loop-pieces g l =
    let number = g.T.IndexStorage.number in
    IsOfTree number l.grm l.fn.productions.items (λ t.
    (rest : List ℕ) × Remains l.grm (pieces_open l.«open».items) (numbers_of number l.left.items) rest
    × (l.out.items ++ rest ≡ l.fn.out.items ++ reverse (tree_text l.grm t)))

abbrev pub decreases-loop-pieces : goal.decreases-loop-pieces
decreases-loop-pieces g l = weight g.T.IndexStorage.number l.self.nodes.items l.«open».items l.left.items
