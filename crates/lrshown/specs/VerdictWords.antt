-- what is told of a verdict, and of the conflicts and the precedences behind it
use Rattle.std.specs.Prelude.{◌≡◌, ℕ, ◌==◌, not, Bool, List, [], ◌++◌, All, Option, IfSome, IsTrue, is_some, codes, decimal, length, if◌then◌else◌}
use Rattle.std.specs.List.{count_by, list_any}
use Rattle.lrspec.specs.grammars.Grammar.{Grammar}
use Rattle.lrspec.specs.tables.Recognition.{IsUnambiguous}
use Rattle.lrspec.specs.merging.Graph.{Graph, IsGraphOf}
use Rattle.lrspec.specs.tables.Table.{Table, IsTableOf}
use Rattle.lrverdicts.specs.declared.verdicts.Verdict.{Verdict}
use Rattle.lrverdicts.specs.declared.verdicts.Verdict.TheVariants.{Unambiguous, Conflicts}
use Rattle.lrverdicts.specs.VerdictTexts.{verdict_text}
use Rattle.lrshown.specs.declared.ambiguities.Ambiguity.{Ambiguity}
use Rattle.lrshown.specs.declared.evidence.Evidence.{Evidence}
use Rattle.lrshown.specs.Ambiguities.{HasTwoTrees, IsProved, has_sentence, has_own_sentence}
use Rattle.lrshown.specs.Losses.{IsLostAtEntry, rejects}
use Rattle.lrshown.specs.DecidedEntries.{IsToldDecided, is_decided}
use Rattle.lrshown.specs.Exactness.{Exactness, Exact, ButAtErrors, Open, IsToldExact}

-- that no sentence has two trees
abbrev pub unambiguous_words : List ℕ
unambiguous_words = codes "unambiguous (proved): no sentence has two trees"

-- that one has
abbrev pub ambiguous_words : List ℕ
ambiguous_words = codes "ambiguous (proved)"

-- a verdict by itself
abbrev pub plain_words : Verdict → List ℕ
plain_words Unambiguous = unambiguous_words
plain_words verdict = verdict_text verdict

-- a text is known for so many of all conflicts whose trees part by what meets in them
abbrev pub sentences_words : ℕ → ℕ → List ℕ
sentences_words own all =
    if own == 0 then codes "a sentence with two trees by something else that meets there"
    else (if own == all then
    (if all == 1 then codes "a sentence with two trees for it" else codes "a sentence with two trees for each")
    else codes "a sentence with two trees for " ++ decimal own ++ codes " of them")

-- a verdict, and that texts are known
abbrev pub ambiguous_verdict : Verdict → List ℕ → List ℕ
ambiguous_verdict (Conflicts c) texts = ambiguous_words ++ codes ": " ++ verdict_text (Conflicts c) ++ codes ", " ++ texts
ambiguous_verdict verdict texts = verdict_text verdict ++ codes "; " ++ ambiguous_words ++ codes ": " ++ texts

-- no text is known for so many conflicts
abbrev pub none_known_words : ℕ → List ℕ
none_known_words all =
    if all == 1 then codes ", not known to be ambiguous" else codes ", none known to be ambiguous"

-- and so many of them are decided
abbrev pub unknown_words : ℕ → ℕ → List ℕ
unknown_words decided all =
    if decided == 0 then none_known_words all
    else (if decided == all then
    (if all == 1 then codes ", not ambiguous" else codes ", none ambiguous")
    else codes ", none known to be ambiguous, " ++ decimal decided ++ codes " known not to be")

-- that no sentence has two trees although there are conflicts
abbrev pub yet_unambiguous_words : List ℕ
yet_unambiguous_words = codes ", yet unambiguous (proved)"

-- the same where it is shown, and else how many of the conflicts are decided
abbrev pub decided_or_unknown : Bool → ℕ → ℕ → List ℕ
decided_or_unknown shown decided all = if shown then yet_unambiguous_words else unknown_words decided all

-- a verdict, and that no text is known
abbrev pub unknown_verdict : Verdict → Bool → ℕ → ℕ → List ℕ
unknown_verdict verdict shown decided all = plain_words verdict ++ decided_or_unknown shown decided all

-- a verdict, and for how many of the conflicts a sentence with two trees is known, or that none has
abbrev pub verdict_on : Verdict → Bool → List Evidence → List ℕ
verdict_on verdict shown evidence =
    if list_any has_sentence evidence then
    ambiguous_verdict verdict (sentences_words (count_by has_own_sentence evidence) (length evidence))
    else unknown_verdict verdict shown (count_by is_decided evidence) (length evidence)

-- for so many a sentence is known that the parser rejects
abbrev pub rejecting_words : ℕ → List ℕ
rejecting_words n = if n == 0 then [] else codes ", " ++ decimal n ++ codes " with a rejected sentence"

-- a verdict with what is known of the conflicts, where texts were looked for
abbrev pub known_verdict : Verdict → Bool → List Evidence → Bool → List ℕ
known_verdict verdict shown evidence searched =
    if length evidence == 0 then plain_words verdict
    else (if not searched then plain_words verdict
    else verdict_on verdict shown evidence ++ rejecting_words (count_by rejects evidence))

-- how many more precedences resolve, and how these are shown
abbrev pub resolved_words : ℕ → List Evidence → Bool → List ℕ
resolved_words resolved evidence hint =
    if resolved == 0 then []
    else codes "; " ++ decimal resolved
    ++ (if length evidence == 0 then [] else codes " more")
    ++ codes " resolved by precedence"
    ++ (if hint then codes " (--settled)" else [])

-- that the parser accepts every sentence, or rejects some only by `%nonassoc`, where that is shown: without conflicts it is told of
-- what precedences resolve
abbrev pub exact_words : Exactness → List Evidence → List ℕ
exact_words Exact evidence =
    if length evidence == 0 then codes ", which lose no sentence (proved)"
    else codes "; the parser accepts every sentence (proved)"
exact_words ButAtErrors evidence =
    if length evidence == 0 then codes ", which reject sentences only by %nonassoc (proved)"
    else codes "; the parser rejects sentences only by %nonassoc (proved)"
exact_words Open evidence = []

-- that the grammar is ambiguous without its precedences
abbrev pub decided_words : Bool → List ℕ
decided_words decided = if decided then codes "; without precedences " ++ ambiguous_words else []

-- what is told of a verdict: with whether no sentence has two trees although there are conflicts; with the conflicts that are left
-- open, and what is known of them where texts were looked for; with how many precedences resolve, whether no sentence is lost, and
-- whether precedences decide a text
abbrev pub verdict_words : Verdict → Bool → List Evidence → Bool → ℕ → Bool → Exactness → Bool → List ℕ
verdict_words verdict shown evidence searched resolved hint exact decided =
    known_verdict verdict shown evidence searched
    ++ resolved_words resolved evidence hint
    ++ exact_words exact evidence
    ++ decided_words decided

-- words of a verdict that tell nothing of the grammar and its table but what is proved
pub record TellProved (g : Grammar) (b : Table) (words : List ℕ) : Type 0 where
  pub verdict : Verdict
  pub shown : Bool
  pub evidence : List Evidence
  pub searched : Bool
  pub resolved : ℕ
  pub hint : Bool
  pub exactness : Exactness
  pub decided : Option Ambiguity
  pub are : words ≡ verdict_words verdict shown evidence searched resolved hint exactness (is_some decided)
  pub unambiguous : verdict ≡ Unambiguous → IsUnambiguous g
  pub yet_unambiguous : IsTrue shown → IsUnambiguous g
  pub texts : All (IsProved g) evidence
  pub lost : All (IsLostAtEntry g b) evidence
  -- a graph of the grammar, if one is kept
  pub graph : Option Graph
  pub graph_of : IfSome graph (IsGraphOf g)
  pub table_of : IfSome graph (λ h. IsTableOf g h b)
  pub exact : IsToldExact g graph b exactness
  pub entries : All (IsToldDecided g graph) evidence
  pub without : IfSome decided (HasTwoTrees g)

-- the same, without saying of which verdict
abbrev pub AreProvedWords : Grammar → Table → List ℕ → Type 0
AreProvedWords g b words = ∥ TellProved g b words ∥₁
