-- what contends where two trees part
use Rattle.std.specs.Prelude.{◌≡◌, ℕ, List, ◌∷◌, take, drop}
use Rattle.lrspec.specs.grammars.Grammar.{Symbol, Grammar}
use Rattle.lrspec.specs.grammars.Candidates.{IsCandidate}
use Rattle.lrspec.specs.merging.Cores.{HasCoreAfter}
use Rattle.lrspec.specs.grammars.Trees.{Forest}
use Rattle.lrspec.specs.merging.Graph.{Graph, core_of}
use Rattle.lrspec.specs.tables.Machine.{next_token}
use Rattle.lrconflicts.specs.Moves.{Move, candidate_of}
use Rattle.lrambiguity.specs.Replays.{Reads}

-- after a list with the core of the state `s` both moves can be made on the token `t`
pub record Contend (g : Grammar) (h : Graph) (s t : ℕ) (one other : Move) : Type 0 where
  pub roots : List Symbol
  pub core : HasCoreAfter g roots (core_of h s)
  pub is_one : IsCandidate g roots t (candidate_of one)
  pub is_other : IsCandidate g roots t (candidate_of other)

-- the moves begin with this one
abbrev pub BeginsWith : List Move → Move → Type 0
BeginsWith ms m = (rest : List Move) × (ms ≡ m ∷ rest)

-- both ways to read the text begin with the moves before, which put trees together whose roots are a
-- list with the core of the state `s`; then the token `t` comes, and the one way goes on with the
-- move `m`, and the other with `n`
pub record PartAt (g : Grammar) (h : Graph) (s t : ℕ) (m n : Move) (text : List ℕ)
    (before one other : List Move) : Type 0 where
  pub used : ℕ
  pub roots : List Symbol
  pub trees : Forest
  pub reads : Reads g before (take used text) roots trees
  pub core : HasCoreAfter g roots (core_of h s)
  pub next : next_token g (drop used text) ≡ t
  pub first : BeginsWith one m
  pub second : BeginsWith other n
