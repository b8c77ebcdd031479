-- what is told of conflicts that are expected, where there are some of either kind
use Rattle.std.proofs.Common.{◌≡◌, ◌≢◌, ℕ, ◌++◌, append_assoc, ◌∙◌, arith}
use Rattle.std.specs.Prelude.{codes, decimal}
use Rattle.std.proofs.lemmas.Bool.Decides.{nat_tests}
use Rattle.lrverdicts.specs.VerdictTexts.{expected_text}

pub expected_of_both :
    (s r : ℕ) → s ≢ 0 → r ≢ 0
    → expected_text s r ≡ decimal s ++ (codes " shift/reduce and " ++ (decimal r ++ codes " reduce/reduce expected"))
expected_of_both s r some_s some_r =
    let shifts = codes " shift/reduce and " in
    let reductions = codes " reduce/reduce expected" in
    let both : expected_text s r ≡ decimal s ++ shifts ++ decimal r ++ reductions = grind (arith, nat_tests) in
    both ∙ append_assoc (decimal s ++ shifts) (decimal r) reductions ∙ append_assoc (decimal s) shifts (decimal r ++ reductions)
