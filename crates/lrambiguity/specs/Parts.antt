-- a part of a sentence, where both are read in two ways
use Rattle.std.specs.Prelude.{◌≡◌, ℕ, List, [], ◌∷◌, ◌++◌}
use Rattle.std.specs.List.{AllZip}
use Rattle.lrspec.specs.grammars.Grammar.{Symbol, Grammar}
use Rattle.lrconflicts.specs.Moves.{Move, Shift, Reduce}
use Rattle.lrambiguity.specs.Inputs.{IsReadAs}

-- two ways to read the same: the moves with which both begin, and those from there on
pub record Ways : Type 0 where
  pub before : List Move
  pub one : List Move
  pub other : List Move

-- the symbol derives a text by these moves
abbrev pub Derives : Grammar → Symbol → List Move → Type 0
Derives g x ms = (text : List ℕ) × IsReadAs g (x ∷ []) text ms

-- these moves, and the same with lists of moves in the places of the shifts: the first list in that of the first shift, and so on
pub data IsFilled : List (List Move) → List Move → List Move → Type 0 where
  -- no moves stay none
  nothing : IsFilled [] [] []
  -- one shift more, with one list more in its place
  shift :
      {lists : List (List Move)} {ms filled : List Move} (list : List Move) → IsFilled lists ms filled
      → IsFilled (lists ++ list ∷ []) (ms ++ Shift ∷ []) (filled ++ list)
  -- one reduction more stays
  reduce :
      {lists : List (List Move)} {ms filled : List Move} (p : ℕ) → IsFilled lists ms filled
      → IsFilled lists (ms ++ Reduce p ∷ []) (filled ++ Reduce p ∷ [])

-- each way to read the one stands in that to read the other, between the same moves in front of it and behind it
pub record StandsIn (inner outer : Ways) : Type 0 where
  pub front : List Move
  pub rest : List Move
  pub before : outer.before ≡ front ++ inner.before
  pub one : outer.one ≡ inner.one ++ rest
  pub other : outer.other ≡ inner.other ++ rest

-- a form of these symbols is a part of the sentence: the form stands in it, with moves that derive the symbols in their places,
-- the same in both ways
pub record IsPartOf (g : Grammar) (symbols : List Symbol) (form sentence : Ways) : Type 0 where
  -- what derives the symbols before the dot, and what derives those behind it
  pub left : List (List Move)
  pub right : List (List Move)
  pub derived : AllZip (Derives g) symbols (left ++ right)
  pub filled : Ways
  pub before : IsFilled left form.before filled.before
  pub one : IsFilled right form.one filled.one
  pub other : IsFilled right form.other filled.other
  pub stands : StandsIn filled sentence
