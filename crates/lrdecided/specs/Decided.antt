-- when no two texts part at a cell between two moves
use Rattle.std.specs.Prelude.{◌≢◌, ℕ, ◌<◌, List, ◌++◌, length, Option, Some}
use Rattle.lrspec.specs.grammars.Grammar.{Symbol, Grammar}
use Rattle.lrspec.specs.grammars.Trees.{Tree, Forest}
use Rattle.lrspec.specs.merging.Cores.{HasCoreAfter}
use Rattle.lrspec.specs.merging.Graph.{Graph, core_of}
use Rattle.lrspec.specs.tables.Table.{IsContender}
use Rattle.lrconflicts.specs.Moves.{Move, candidate_of, IsTreeBy}
use Rattle.lrambiguity.specs.Replays.{Reads}
use Rattle.lrambiguity.specs.Inputs.{GoesOn}
use Rattle.lrambiguity.specs.Partings.{PartAt}
use Rattle.lrdecided.specs.Agreements.{Agree}

-- the entry of the state `s` and the token `t` for the moves `m` and `n` is decided: no text has two trees that part there
abbrev pub IsDecided : Grammar → Graph → ℕ → ℕ → Move → Move → Type 0
IsDecided g h s t m n =
    (text : List ℕ) (before one other : List Move) (a b : Tree)
    → PartAt g h s t m n text before one other
    → IsTreeBy g (before ++ one) text a → ¬ (IsTreeBy g (before ++ other) text b)

-- the moves read the text and put trees together, whose roots are a list with the core of the state `s`
pub record ComesTo (g : Grammar) (h : Graph) (s : ℕ) (ms : List Move) (text : List ℕ) : Type 0 where
  pub roots : List Symbol
  pub trees : Forest
  pub reads : Reads g ms text roots trees
  pub core : HasCoreAfter g roots (core_of h s)

-- two texts with one beginning, which the same moves read up to the state `s`, where the token `t` comes next, and which go
-- on there with the moves `m` and `n`, don't agree in so many of the tokens that come, that one among them
abbrev pub IsDecidedWithin : Grammar → Graph → ℕ → ℕ → Move → Move → Option ℕ → Type 0
IsDecidedWithin g h s t m n left =
    (text x y : List ℕ) (before one other : List Move) → ComesTo g h s before text
    → GoesOn g t m text before x one → GoesOn g t n text before y other → ¬ (Agree g left x y)

-- the entry is decided by `k` tokens, as in a canonical LR(k) parser
abbrev pub IsDecidedBy : Grammar → Graph → ℕ → ℕ → Move → Move → ℕ → Type 0
IsDecidedBy g h s t m n k = IsDecidedWithin g h s t m n (Some k)

-- each two contenders of each cell of the graph are decided
abbrev pub AreDecided : Grammar → Graph → Type 0
AreDecided g h =
    (s t : ℕ) (m n : Move) → s < length h → m ≢ n
    → IsContender g h s t (candidate_of m) → IsContender g h s t (candidate_of n)
    → IsDecided g h s t m n
