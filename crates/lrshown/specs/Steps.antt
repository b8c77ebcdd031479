-- steps by which trees are put together
use Rattle.std.specs.Prelude.{ℕ, ◌==◌, List, [], ◌∷◌, Bool, true, false, map, count_by}
use Rattle.lrconflicts.specs.Moves.{Move, Shift, Reduce}
use Rattle.lrshown.specs.declared.steps.Step.{Step}
use Rattle.lrshown.specs.declared.steps.Step.TheVariants as code

-- the move that a step is
abbrev pub move_by : Step → Move
move_by code.Shift = Shift
move_by (code.Reduce p) = Reduce p

abbrev pub moves_by : List Step → List Move
moves_by ss = map move_by ss

-- whether steps are the same
abbrev pub is_same_step : Step → Step → Bool
is_same_step code.Shift code.Shift = true
is_same_step (code.Reduce p) (code.Reduce q) = p == q
is_same_step code.Shift (code.Reduce q) = false
is_same_step (code.Reduce p) code.Shift = false

-- the first of them; where there is none, no node is put over anything
abbrev pub first_of : List Step → Step
first_of [] = code.Shift
first_of (s ∷ ss) = s

abbrev pub is_shift : Step → Bool
is_shift code.Shift = true
is_shift (code.Reduce p) = false

-- how many symbols become leaves
abbrev pub shifts : List Step → ℕ
shifts ss = count_by is_shift ss
