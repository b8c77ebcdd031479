-- derivations of symbols, by moves
use Rattle.std.specs.Prelude.{ℕ, List, [], ◌∷◌, ◌++◌}
use Rattle.lrspec.specs.grammars.Grammar.{Symbol, Rule, Grammar, body_of, IsProductionOf}
use Rattle.lrconflicts.specs.Moves.{Move, Shift, Reduce}

-- the moves read symbols and fold them onto a stack: a shift puts the next symbol on it, and a reduction puts the rule of a
-- production in the place of its body
pub data Folds (g : Grammar) : List Move → List Symbol → List Symbol → Type 0 where
  nothing : Folds g [] [] []
  shift :
      {ms : List Move} {read stack : List Symbol} (x : Symbol) → Folds g ms read stack
      → Folds g (ms ++ Shift ∷ []) (read ++ x ∷ []) (stack ++ x ∷ [])
  reduce :
      {ms : List Move} {read : List Symbol} (stack : List Symbol) (p r : ℕ)
      → Folds g ms read (stack ++ body_of g p)
      → IsProductionOf g p r
      → Folds g (ms ++ Reduce p ∷ []) read (stack ++ Rule r ∷ [])

-- the rule derives the symbols by these moves
abbrev pub IsDerivedBy : Grammar → ℕ → List Symbol → List Move → Type 0
IsDerivedBy g r symbols ms = Folds g ms symbols (Rule r ∷ [])
