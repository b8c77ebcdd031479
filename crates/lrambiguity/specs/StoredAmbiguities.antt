-- texts with two trees, as the code stores them
use Rattle.std.specs.Prelude.{◌≡◌, ◌≢◌, ℕ, List, ◌++◌, slice_get}
use Rattle.std.specs.declared.vec.Vec.{Vec}
use Rattle.std.specs.declared.alloc.Global.{Global}
use Rattle.lrgrammar.specs.declared.idx.TIdx.{TIdx}
use Rattle.lrspec.specs.grammars.Grammar.{Grammar}
use Rattle.lrspec.specs.grammars.Trees as math
use Rattle.lrtable.specs.RunAnswers.{text_of}
use Rattle.lrtree.specs.declared.trees.Tree.{Tree}
use Rattle.lrtree.specs.StoredTrees.{tree_of}
use Rattle.lrconflicts.specs.declared.moves.Move as stored
use Rattle.lrambiguity.specs.declared.ambiguities.Ambiguity.{Ambiguity}
use Rattle.lrconflicts.specs.Moves.{IsTreeBy}
use Rattle.lrspec.specs.merging.Graph.{Graph}
use Rattle.lrambiguity.specs.declared.partings.Contest.{Contest}
use Rattle.lrambiguity.specs.Partings.{PartAt}
use Rattle.lrconflicts.specs.StoredMoves.{move_of, moves_stored}

-- both trees are of the text, by the moves before and one of the two lists behind them, the first moves of which differ
pub record AreTreesBy {T : Type 0} (number : T → ℕ) (g : Grammar) (text : List (TIdx T))
    (before one other : List (stored.Move T)) (one_tree other_tree : Tree T) : Type 0 where
  pub first : IsTreeBy g (moves_stored number before ++ moves_stored number one)
      (text_of number text) (tree_of number one_tree)
  pub second : IsTreeBy g (moves_stored number before ++ moves_stored number other)
      (text_of number text) (tree_of number other_tree)
  pub part : slice_get one 0 ≢ slice_get other 0

-- where both put together a tree of the text, they begin with the same move
abbrev pub BeginAlike :
    {T : Type 0} → (T → ℕ) → Grammar → List (TIdx T) → List (stored.Move T) → List (stored.Move T)
    → List (stored.Move T) → Type 0
BeginAlike number g text before one other =
    (t u : math.Tree) → IsTreeBy g (moves_stored number before ++ moves_stored number one)
    (text_of number text) t
    → IsTreeBy g (moves_stored number before ++ moves_stored number other) (text_of number text) u
    → slice_get one 0 ≡ slice_get other 0

-- the ambiguity is one of the grammar
abbrev pub IsAmbiguity : {T : Type 0} → (T → ℕ) → Grammar → Ambiguity T → Type 0
IsAmbiguity number g a =
    AreTreesBy number g a.text.items a.before.items a.one.items a.other.items
    a.one_tree a.other_tree

-- the text and the moves are those that were given
pub record IsGiven {T : Type 0} (a : Ambiguity T) (text : Vec (TIdx T) Global)
    (before one other : Vec (stored.Move T) Global) : Type 0 where
  pub text_is : a.text ≡ text
  pub before_is : a.before ≡ before
  pub one_is : a.one ≡ one
  pub other_is : a.other ≡ other

-- its trees part at the contest
abbrev pub AmbiguityPartsAt :
    {T : Type 0} → (T → ℕ) → Grammar → Graph → Ambiguity T → Contest T → Type 0
AmbiguityPartsAt number g h a c =
    PartAt g h (number c.state.0) (number c.token.0) (move_of number c.one) (move_of number c.other)
    (text_of number a.text.items)
    (moves_stored number a.before.items) (moves_stored number a.one.items)
    (moves_stored number a.other.items)
