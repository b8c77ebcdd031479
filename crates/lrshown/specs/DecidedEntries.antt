-- entries at which no text has two trees that part
use Rattle.std.specs.Prelude.{◌≡◌, ℕ, Bool, List, All, Option, None, Some, IfSome, MatchOption, is_some}
use Rattle.lrspec.specs.grammars.Grammar.{Grammar}
use Rattle.lrspec.specs.merging.Graph.{Graph}
use Rattle.lrdecided.specs.declared.decided.Decided.{Decided}
use Rattle.lrdecided.specs.Entries as decided
use Rattle.lrdecided.specs.Entries.{IsDecidedAt, IsDecidedAtBy}
use Rattle.lrverdicts.specs.declared.conflicts.Entry.{Entry}
use Rattle.lrshown.specs.declared.evidence.Evidence.{Evidence}
use Rattle.lrshown.specs.declared.steps.Step.TheVariants.{Reduce}
use Rattle.lrshown.specs.Ambiguities.{against}
use Rattle.lrshown.specs.Steps.{move_by}

-- the two moves that meet in an entry
abbrev pub meeting_of : Entry → decided.Entry
meeting_of e = record {
  state = e.state;
  token = e.token;
  one = move_by (Reduce e.production);
  other = move_by (against e.other);
}

-- no text has two trees that part at the entry, and if a number of tokens is told, so many decide it
pub record IsDecidedEntry (g : Grammar) (h : Graph) (e : Entry) (d : Decided) : Type 0 where
  pub never : IsDecidedAt g h (meeting_of e)
  pub by_tokens : IfSome d.tokens (IsDecidedAtBy g h (meeting_of e))

-- an entry that is told to be decided is so
abbrev pub IsDecidedOf : Grammar → Graph → Evidence → Type 0
IsDecidedOf g h e = IfSome e.decided (IsDecidedEntry g h e.entry)

-- the same where a graph is kept; without one no entry is told to be decided
abbrev pub IsToldDecided : Grammar → Option Graph → Evidence → Type 0
IsToldDecided g o e = MatchOption o (e.decided ≡ None) (λ h. IsDecidedOf g h e)

-- the same, without saying how it is decided
abbrev pub IsShownDecided : Grammar → Option Graph → Evidence → Type 0
IsShownDecided g o e = ∥ IsToldDecided g o e ∥₁

abbrev pub AreShownDecided : Grammar → Option Graph → List Evidence → Type 0
AreShownDecided g o evidence = All (IsShownDecided g o) evidence

-- whether an entry is told to be decided
abbrev pub is_decided : Evidence → Bool
is_decided e = is_some e.decided

-- how many tokens decide, if that is known
abbrev pub tokens_in : Option Decided → Option ℕ
tokens_in None = None
tokens_in (Some d) = d.tokens

abbrev pub tokens_of : Evidence → Option ℕ
tokens_of e = tokens_in e.decided
