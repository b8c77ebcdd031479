-- moves, as the code stores them
use Rattle.std.specs.Prelude.{ℕ, List, map}
use Rattle.lrconflicts.specs.declared.moves.Move as stored
use Rattle.lrconflicts.specs.declared.moves.Move.TheVariants as code
use Rattle.lrconflicts.specs.Moves.{Move, Shift, Reduce}

-- a move by the number of its production
abbrev pub move_of : {T : Type 0} → (T → ℕ) → stored.Move T → Move
move_of number code.Shift = Shift
move_of number (code.Reduce p) = Reduce (number p.0)

-- moves by the numbers of their productions
abbrev pub moves_stored : {T : Type 0} → (T → ℕ) → List (stored.Move T) → List Move
moves_stored number ms = map (move_of number) ms
