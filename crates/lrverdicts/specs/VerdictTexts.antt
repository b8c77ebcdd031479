-- what is told of verdicts
use Rattle.std.specs.Prelude.{ℕ, ◌==◌, List, ◌++◌, codes, decimal, if◌then◌else◌}
use Rattle.lrverdicts.specs.declared.verdicts.Counts.{Counts}
use Rattle.lrverdicts.specs.declared.verdicts.Verdict.{Verdict}
use Rattle.lrverdicts.specs.declared.verdicts.Verdict.TheVariants.{Unambiguous, NoConflicts, Conflicts, Unexpected}
use Rattle.lrverdicts.specs.declared.verdicts.Verdict.TheVariants as told

-- so many conflicts of a kind
abbrev pub kind_text : ℕ → List ℕ → List ℕ
kind_text n name =
    decimal n ++ codes " " ++ name ++ codes " " ++ (if n == 1 then codes "conflict" else codes "conflicts")

-- how many conflicts there are: of a kind of which there are none nothing is told beside the other
abbrev pub counts_text : Counts → List ℕ
counts_text c =
    let shifts = kind_text c.shift_reduce (codes "shift/reduce") in
    let reductions = kind_text c.reduce_reduce (codes "reduce/reduce") in
    if c.reduce_reduce == 0 then shifts
    else (if c.shift_reduce == 0 then reductions else shifts ++ codes ", " ++ reductions)

-- how many are expected, likewise
abbrev pub expected_text : ℕ → ℕ → List ℕ
expected_text shifts reductions =
    if reductions == 0 then decimal shifts ++ codes " shift/reduce expected"
    else (if shifts == 0 then decimal reductions ++ codes " reduce/reduce expected"
    else decimal shifts ++ codes " shift/reduce and " ++ decimal reductions ++ codes " reduce/reduce expected")

-- a verdict
abbrev pub verdict_text : Verdict → List ℕ
verdict_text Unambiguous = codes "unambiguous"
verdict_text NoConflicts = codes "no conflicts"
verdict_text (Conflicts c) = counts_text c
verdict_text (told.Expected c) = codes "as expected: " ++ counts_text c
verdict_text (Unexpected c (s, r)) = counts_text c ++ codes "; " ++ expected_text s r
