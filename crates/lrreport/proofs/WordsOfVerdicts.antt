-- words of verdicts, case by case
use Rattle.std.proofs.Common.{◌≡◌, ◌≢◌, ℕ, List, [], ◌++◌, Bool, append_assoc, length, ap, refl, ◌∙◌, arith}
use Rattle.std.specs.Prelude.{◌==◌, codes, decimal, if◌then◌else◌}
use Rattle.std.proofs.lemmas.Bool.Decides.{nat_tests}
use Rattle.lrverdicts.specs.declared.verdicts.Counts.{Counts}
use Rattle.lrverdicts.specs.declared.verdicts.Verdict.{Verdict}
use Rattle.lrverdicts.specs.declared.verdicts.Verdict.TheVariants.{Unambiguous, NoConflicts, Conflicts, Unexpected}
use Rattle.lrverdicts.specs.declared.verdicts.Verdict.TheVariants as told
use Rattle.lrverdicts.specs.VerdictTexts.{counts_text, verdict_text}
use Rattle.lrshown.specs.declared.evidence.Evidence.{Evidence}
use Rattle.lrshown.specs.VerdictWords.{ambiguous_verdict, ambiguous_words, resolved_words}
use Rattle.lrreport.specs.JsonHeads.{is_unambiguous}

pub resolved_some :
    (s : ℕ) (e : List Evidence) (hint : Bool) → s ≢ 0
    → resolved_words s e hint
    ≡ codes "; " ++ decimal s ++ (if length e == 0 then [] else codes " more") ++ codes " resolved by precedence" ++ (if hint then codes " (--settled)" else [])
resolved_some s e hint some = grind (arith, nat_tests)

pub of_conflicts :
    (c : Counts) (texts : List ℕ)
    → ambiguous_verdict (Conflicts c) texts ≡ (ambiguous_words ++ (codes ": " ++ (counts_text c ++ codes ", "))) ++ texts
of_conflicts c texts =
    let from_the_right = append_assoc (ambiguous_words ++ codes ": ") (counts_text c) (codes ", ") ∙ append_assoc ambiguous_words (codes ": ") (counts_text c ++ codes ", ") in
    ap (λ x. x ++ texts) from_the_right

pub of_others :
    (v : Verdict) (texts : List ℕ) → ((c : Counts) → v ≢ Conflicts c)
    → ambiguous_verdict v texts ≡ verdict_text v ++ codes "; " ++ ambiguous_words ++ codes ": " ++ texts
of_others Unambiguous texts other = refl
of_others NoConflicts texts other = refl
of_others (Conflicts c) texts other = absurd (other c refl)
of_others (told.Expected c) texts other = refl
of_others (Unexpected c wanted) texts other = refl

-- where the verdict says nothing of it, the grammar is unambiguous if that is shown
pub shown_so : (v : Verdict) (shown : Bool) → v ≢ Unambiguous → shown ≡ is_unambiguous v shown
shown_so Unambiguous shown other = absurd (other refl)
shown_so NoConflicts shown other = refl
shown_so (Conflicts c) shown other = refl
shown_so (told.Expected c) shown other = refl
shown_so (Unexpected c wanted) shown other = refl
