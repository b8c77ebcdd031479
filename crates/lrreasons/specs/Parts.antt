-- texts in the places of a form's symbols, as the code stores them
use Rattle.std.specs.Prelude.{ℕ, List, [], ◌∷◌, ◌++◌, map, take}
use Rattle.lrconflicts.specs.declared.moves.Written.{Written}
use Rattle.lrconflicts.specs.Moves.{Move}
use Rattle.lrconflicts.specs.StoredMoves.{moves_stored}
use Rattle.lrambiguity.specs.Parts.{Ways, IsFilled}
use Rattle.lrforms.specs.declared.ambiguous.Ways as stored
use Rattle.lrreasons.specs.declared.parts.Filling.{Filling}
use Rattle.lrgrammar.specs.Symbols.{number_of}

-- two ways to read the same, by the numbers of their productions
abbrev pub ways_of : stored.Ways → Ways
ways_of w = record {
  before = moves_stored number_of w.before.items;
  one = moves_stored number_of w.first.items;
  other = moves_stored number_of w.second.items;
}

-- the moves of each text
abbrev pub moves_of_all : List (Written ℕ) → List (List Move)
moves_of_all texts = map (λ t. moves_stored number_of t.moves.items) texts

-- so far these moves are filled, with the first of the texts
abbrev pub HasFilled : List (Written ℕ) → List Move → Filling → Type 0
HasFilled texts ms f = IsFilled (take f.used (moves_of_all texts)) ms (moves_stored number_of f.moves.items)

-- between the one and the other this move is filled
abbrev pub FillsOn : List (Written ℕ) → Move → Filling → Filling → Type 0
FillsOn texts m old new = (ms : List Move) → HasFilled texts ms old → HasFilled texts (ms ++ m ∷ []) new
