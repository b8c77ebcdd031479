-- what moves have made of symbols, as the code stores it, and what moves may still come
use Rattle.std.specs.Prelude.{◌≡◌, ℕ, List, [], ◌∷◌, ◌++◌, map, take, drop}
use Rattle.lrgrammar.specs.declared.idx.Symbol as stored
use Rattle.lrgrammar.specs.Symbols.{symbol_of}
use Rattle.lrspec.specs.grammars.Grammar.{Symbol, Rule, Grammar, body_of, IsProductionOf}
use Rattle.lrambiguity.specs.declared.derivations.Fold.{Fold}
use Rattle.lrconflicts.specs.Moves.{Move, Shift, Reduce}
use Rattle.lrambiguity.specs.Derivations.{Folds}

-- the stack
abbrev pub stack_of : {T : Type 0} → (T → ℕ) → Fold T → List Symbol
stack_of number f = map (symbol_of number) f.stack.items

-- the symbols that are not read yet
abbrev pub left_of : {T : Type 0} → (T → ℕ) → List (stored.Symbol T) → Fold T → List Symbol
left_of number symbols f = drop f.used (map (symbol_of number) symbols)

-- these moves have folded the others onto the stack
abbrev pub HasFolded :
    {T : Type 0} → (T → ℕ) → Grammar → List (stored.Symbol T) → List Move → Fold T → Type 0
HasFolded number g symbols ms f =
    Folds g ms (take f.used (map (symbol_of number) symbols)) (stack_of number f)

-- from this stack on the moves read what is left, and make the goal of it
abbrev pub Finishes : Grammar → List Symbol → List Move → List Symbol → List Symbol → Type 0
Finishes g goal [] stack left = (stack ≡ goal) × (left ≡ [])
Finishes g goal (Shift ∷ ms) stack left =
    (x : Symbol) × (y : List Symbol) × (left ≡ x ∷ y) × Finishes g goal ms (stack ++ x ∷ []) y
Finishes g goal (Reduce p ∷ ms) stack left =
    (front : List Symbol) × (r : ℕ) × (stack ≡ front ++ body_of g p) × IsProductionOf g p r
    × Finishes g goal ms (front ++ Rule r ∷ []) left

-- between the one and the other this move is made, and no other way is left
pub record FoldsOn {T : Type 0} (number : T → ℕ) (g : Grammar)
    (symbols : List (stored.Symbol T)) (m : Move) (old new : Fold T) : Type 0 where
  pub made : (ms : List Move) → HasFolded number g symbols ms old
      → HasFolded number g symbols (ms ++ m ∷ []) new
  pub only :
      (goal : List Symbol) (ms : List Move)
      → Finishes g goal (m ∷ ms) (stack_of number old) (left_of number symbols old)
      → Finishes g goal ms (stack_of number new) (left_of number symbols new)

-- this move can't be made
abbrev pub CannotFold :
    {T : Type 0} → (T → ℕ) → Grammar → List (stored.Symbol T) → Move → Fold T → Type 0
CannotFold number g symbols m f =
    (goal : List Symbol) (ms : List Move)
    → ¬ (Finishes g goal (m ∷ ms) (stack_of number f) (left_of number symbols f))
