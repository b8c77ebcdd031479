-- texts that lists derive, and how a text goes on
use Rattle.std.specs.Prelude.{◌≡◌, ℕ, List, ◌∷◌, ◌++◌}
use Rattle.lrspec.specs.grammars.Grammar.{Symbol, Grammar}
use Rattle.lrspec.specs.grammars.Trees.{Tree, Forest}
use Rattle.lrspec.specs.tables.Machine.{next_token}
use Rattle.lrconflicts.specs.Moves.{Move, IsTreeBy}
use Rattle.lrambiguity.specs.Replays.{Reads}

-- the list derives the text by these moves
abbrev pub IsReadAs : Grammar → List Symbol → List ℕ → List Move → Type 0
IsReadAs g w text ms = (ts : Forest) × Reads g ms text w ts

-- behind the text and the moves before, the token `t` comes next and the move `m` is made, and all
-- the moves put together a tree of all the text
pub record GoesOn (g : Grammar) (t : ℕ) (m : Move) (text : List ℕ) (before : List Move)
    (rest : List ℕ) (after : List Move) : Type 0 where
  pub next : next_token g rest ≡ t
  pub first : (ms : List Move) × (after ≡ m ∷ ms)
  pub whole : (tree : Tree) × IsTreeBy g (before ++ after) (text ++ rest) tree
