-- ways on from a stack
use Rattle.std.specs.Prelude.{ℕ, List, [], ◌∷◌, ◌++◌}
use Rattle.lrspec.specs.grammars.Grammar.{Symbol, Rule, Token, Grammar, body_of, IsProductionOf}
use Rattle.lrconflicts.specs.Moves.{Move, Shift, Reduce}

-- from this stack of symbols on the moves read the text, and leave the start rule alone
pub data Finishes (g : Grammar) : List Symbol → List Move → List ℕ → Type 0 where
  -- where it is alone and the text is used up, no moves are left
  done : Finishes g (body_of g g.start_production) [] []
  -- a shift puts the next token on the stack
  shift :
      {v : List Symbol} {ms : List Move} {text : List ℕ} (t : ℕ) → Finishes g (v ++ Token t ∷ []) ms text
      → Finishes g v (Shift ∷ ms) (t ∷ text)
  -- a reduction puts the rule of a production in the place of its body
  reduce :
      {ms : List Move} {text : List ℕ} (v : List Symbol) (p r : ℕ) → IsProductionOf g p r
      → Finishes g (v ++ Rule r ∷ []) ms text
      → Finishes g (v ++ body_of g p) (Reduce p ∷ ms) text
