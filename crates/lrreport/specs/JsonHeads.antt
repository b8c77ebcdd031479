-- how what is told as JSON begins
use Rattle.std.specs.Prelude.{◌≡◌, ℕ, Bool, true, List, [], ◌∷◌, ◌++◌, codes, decimal, is_some, if◌then◌else◌}
use Rattle.std.specs.List.{list_any}
use Rattle.json.specs.Token.{Token, begin_object, begin_array, end_array, key, string, number}
use Rattle.json.specs.Print.{print}
use Rattle.lrverdicts.specs.declared.verdicts.Counts.{Counts}
use Rattle.lrverdicts.specs.declared.verdicts.Verdict.{Verdict}
use Rattle.lrverdicts.specs.declared.verdicts.Verdict.TheVariants.{Unambiguous, NoConflicts, Conflicts, Unexpected}
use Rattle.lrverdicts.specs.declared.verdicts.Verdict.TheVariants as told
use Rattle.lrverdicts.specs.Verdicts.{counts_in}
use Rattle.lrshown.specs.Ambiguities.{has_sentence}
use Rattle.lrshown.specs.Exactness.{Exactness, Exact, ButAtErrors, Open}
use Rattle.lrreport.specs.declared.reports.Conclusion.{Conclusion}

-- a verdict in few words, where a sentence with two trees is known or not
abbrev pub verdict_word : Verdict → Bool → List ℕ
verdict_word Unambiguous known = codes "unambiguous"
verdict_word NoConflicts known = codes "no conflicts"
verdict_word (Conflicts c) known = if known then codes "ambiguous" else codes "conflicts"
verdict_word (told.Expected c) known = codes "as expected"
verdict_word (Unexpected c wanted) known = codes "unexpected"

-- whether it is proved that the grammar is unambiguous, which is shown or not where there are conflicts
abbrev pub is_unambiguous : Verdict → Bool → Bool
is_unambiguous Unambiguous shown = true
is_unambiguous verdict shown = shown

-- something in a list of what is proved, if it is
abbrev pub fact_tokens : Bool → List ℕ → List Token
fact_tokens proved fact = if proved then string fact ∷ [] else []

-- that the parser accepts every sentence, or rejects some only by `%nonassoc`, likewise
abbrev pub exact_tokens : Exactness → List Token
exact_tokens Exact = string (codes "accepts every sentence") ∷ []
exact_tokens ButAtErrors = string (codes "rejects sentences only by %nonassoc") ∷ []
exact_tokens Open = []

-- what is proved: that the grammar is unambiguous; that it is ambiguous, or would be without its precedences, where a sentence
-- with two trees is known; and how exact the table is
abbrev pub proved_tokens : Verdict → Bool → Bool → Bool → Exactness → List Token
proved_tokens verdict shown known without exact =
    key (codes "proved") ∷ begin_array
    ∷ fact_tokens (is_unambiguous verdict shown) (codes "unambiguous")
    ++ fact_tokens known (codes "ambiguous")
    ++ fact_tokens without (codes "ambiguous without precedences")
    ++ exact_tokens exact
    ++ end_array ∷ []

-- how many conflicts there are
abbrev pub count_tokens : Counts → List Token
count_tokens counts =
    key (codes "shift_reduce") ∷ number (decimal counts.shift_reduce)
    ∷ key (codes "reduce_reduce") ∷ number (decimal counts.reduce_reduce)
    ∷ []

-- the name of the file, its verdict, what is proved, and how many conflicts there are
abbrev pub head_tokens : List ℕ → Verdict → Bool → Bool → Bool → Exactness → List Token
head_tokens name verdict shown known without exact =
    begin_object
    ∷ key (codes "file") ∷ string name
    ∷ key (codes "verdict") ∷ string (verdict_word verdict known)
    ∷ proved_tokens verdict shown known without exact
    ++ count_tokens (counts_in verdict)

-- what is told as JSON of a conclusion begins so
abbrev pub json_head : List ℕ → Conclusion → List ℕ
json_head name c =
    print
    (head_tokens name c.verdict c.is_unambiguous (list_any has_sentence c.evidence.items)
    (is_some c.decided) c.exactness)

-- a text begins with another one
pub record BeginsWith (head text : List ℕ) : Type 0 where
  pub behind : List ℕ
  pub is : text ≡ head ++ behind
