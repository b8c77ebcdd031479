-- files that are checked in turn
use Rattle.std.specs.Prelude.{◌≡◌, ◌≢◌, ◌⊎◌, ⊤, ℕ, Bool, true, List, [], ◌∷◌, ◌++◌, Option, IfSome, IfNone, max, string_bytes}
use Rattle.std.specs.Io.KnownBytes.{Appends}
use Rattle.lrverdicts.specs.Verdicts.{status_of}
use Rattle.lrreport.specs.declared.options.Options.{Options}
use Rattle.lrreport.specs.declared.options.Output.TheVariants.{Grammar}
use Rattle.lrreport.specs.declared.reports.Report.{Report}
use Rattle.lrreport.specs.Conclusions.{IsConcluded, IsSaidBy}
use Rattle.lrreport.specs.ToldConclusions.{TellsConclusion}
use Rattle.lrcheck.specs.declared.files.Outcome.{Outcome}
use Rattle.lrcheck.specs.declared.files.Outcome.TheVariants.{Checked, Unread}

-- what stands in files, by their names, where that is known
abbrev pub FileContents : Type 0
FileContents = List ℕ → Option (List ℕ)

-- a report on a file of that name: what it concludes is so, of the text that was read of it, and its status and its text tell that
pub record IsReport (options : Options) (contents : FileContents) (name : List ℕ) (r : Report)
    : Type 0 where
  pub read : List ℕ
  pub is : IfSome (contents name) (λ all. read ≡ all)
  pub said : IfSome r.conclusion (IsSaidBy options read)
  pub proved : IfSome r.conclusion (IsConcluded options.ignores_precedences)
  pub status : IfSome r.conclusion (λ c. r.status ≡ status_of c.verdict)
  pub told : IfSome r.conclusion (λ c. TellsConclusion options name c (string_bytes r.text))
  pub unread : options.output ≢ Grammar → IfNone r.conclusion (r.status ≡ 2)

-- what comes of a file of that name
abbrev pub IsOutcomeOf : Options → FileContents → List ℕ → Outcome → Type 0
IsOutcomeOf options contents name (Checked r) = IsReport options contents name r
IsOutcomeOf options contents name (Unread e) = ⊤

-- what is written of it, and its status
abbrev pub text_of : Outcome → List ℕ
text_of (Checked r) = string_bytes r.text
text_of (Unread e) = []

abbrev pub outcome_status : Outcome → ℕ
outcome_status (Checked r) = r.status
outcome_status (Unread e) = 2

-- the status of a file's page: 0, or 2, which is only where a page is asked for
abbrev pub IsPageStatus : Bool → ℕ → Type 0
IsPageStatus asks status = (status ≡ 0) ⊎ ((asks ≡ true) × (status ≡ 2))

-- files of these names are checked in turn, with a page of each or not: what is written of each stands behind what was written
-- before, and the status is the greatest of theirs and of their pages'
pub data AreChecked (options : Options) (contents : FileContents) (asks : Bool) (old : Option (List ℕ))
    : List (List ℕ) → Option (List ℕ) → ℕ → Type 0 where
  none : AreChecked options contents asks old [] old 0
  more :
      {names : List (List ℕ)} {before after : Option (List ℕ)} {status : ℕ} (name : List ℕ) (o : Outcome) (page : ℕ)
      → AreChecked options contents asks old names before status
      → IsOutcomeOf options contents name o
      → Appends before after (text_of o)
      → IsPageStatus asks page
      → AreChecked options contents asks old (names ++ name ∷ []) after (max (max (outcome_status o) status) page)
