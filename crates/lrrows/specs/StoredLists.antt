-- lists of the code as plain data: productions, targets and conflicts
use Rattle.std.specs.Prelude.{ℕ, List, Option, map, option_map}
use Rattle.lrgrammar.specs.declared.idx.PIdx.{PIdx}
use Rattle.lrgrammar.specs.declared.idx.StIdx.{StIdx}
use Rattle.lrgrammar.specs.declared.idx.TIdx.{TIdx}

-- an entry of the list of reduce/reduce conflicts, by numbers
abbrev pub stored_reduce_reduce :
    {T : Type 0} → (T → ℕ) → TIdx T × PIdx T × PIdx T × StIdx T → ℕ × ℕ × ℕ × ℕ
stored_reduce_reduce number e = (number e.0.0, number e.1.0, number e.2.0, number e.3.0)

-- an entry of the list of shift/reduce conflicts, by numbers
abbrev pub stored_shift_reduce : {T : Type 0} → (T → ℕ) → TIdx T × PIdx T × StIdx T → ℕ × ℕ × ℕ
stored_shift_reduce number e = (number e.0.0, number e.1.0, number e.2.0)

-- productions by their numbers
abbrev pub least_of : {T : Type 0} → (T → ℕ) → List (Option (PIdx T)) → List (Option ℕ)
least_of number ps = map (option_map (λ p. number p.0)) ps

-- states to which edges lead by their numbers
abbrev pub targets_of : {T : Type 0} → (T → ℕ) → List (Option (StIdx T)) → List (Option ℕ)
targets_of number us = map (option_map (λ u. number u.0)) us

-- both lists by numbers
abbrev pub stored_reduce_reduces :
    {T : Type 0} → (T → ℕ) → List (TIdx T × PIdx T × PIdx T × StIdx T) → List (ℕ × ℕ × ℕ × ℕ)
stored_reduce_reduces number es = map (stored_reduce_reduce number) es

abbrev pub stored_shift_reduces :
    {T : Type 0} → (T → ℕ) → List (TIdx T × PIdx T × StIdx T) → List (ℕ × ℕ × ℕ)
stored_shift_reduces number es = map (stored_shift_reduce number) es
