-- sentences with two trees, and where these part
use Rattle.std.specs.Prelude.{◌≢◌, ℕ}
use Rattle.lrspec.specs.grammars.Grammar.{Grammar}
use Rattle.lrspec.specs.merging.Graph.{Graph}
use Rattle.lrconflicts.specs.Moves.{Move}
use Rattle.lrambiguity.specs.Partings.{PartAt}
use Rattle.lrshown.specs.declared.ambiguities.Ambiguity.{Ambiguity}
use Rattle.lrshown.specs.Steps.{moves_by}

-- both trees of a text are read alike up to the state `s`, in which the token `t` comes and they go on by different moves
pub record PartsAt (g : Grammar) (h : Graph) (s t : ℕ) (a : Ambiguity) : Type 0 where
  pub one : Move
  pub other : Move
  pub parts : PartAt g h s t one other a.tokens.items
      (moves_by a.trees.before.items) (moves_by a.trees.one.items) (moves_by a.trees.other.items)
  pub differ : one ≢ other
