-- what is known of entries for a parser
use Rattle.std.proofs.Common.{◌≡◌, List, [], ◌∷◌, Bool, true, false, Option, None, Some, map, cond, refl, ap}
use Rattle.std.proofs.lemmas.List.Elements.{All-nil, All-cons, All-head, All-tail}
use Rattle.std.proofs.lemmas.Bool.{false≢true}
use Rattle.std.specs.List.{All}
use Rattle.std.specs.Prelude.{MatchOption}
use Rattle.lryacc.specs.declared.parsers.Parser.{Parser}
use Rattle.lryacc.specs.Parsers.{splits}
use Rattle.lrshown.specs.declared.evidence.Evidence.{Evidence}
use Rattle.lrreport.specs.Conclusions.{known_by, without_loss}

same_entries : (all : List Evidence) → map (λ e. e.entry) (map without_loss all) ≡ map (λ e. e.entry) all
same_entries [] = refl
same_entries (e ∷ all) = ap (λ entries. e.entry ∷ entries) (same_entries all)

entries_by : (b : Bool) (all : List Evidence) → map (λ e. e.entry) (cond b (map without_loss all) all) ≡ map (λ e. e.entry) all
entries_by true all = same_entries all
entries_by false all = refl

-- the entries are the same
pub known_entries : (p : Parser) (all : List Evidence) → map (λ e. e.entry) (known_by p all) ≡ map (λ e. e.entry) all
known_entries p all = entries_by (splits p) all

none_lost : (all : List Evidence) → All (λ e. e.loss ≡ None) (map without_loss all)
none_lost [] = All-nil (λ e. e.loss ≡ None)
none_lost (e ∷ all) = All-cons (λ e. e.loss ≡ None) (without_loss e) (map without_loss all) refl (none_lost all)

unlost_by : (b : Bool) (all : List Evidence) → b ≡ true → All (λ e. e.loss ≡ None) (cond b (map without_loss all) all)
unlost_by true all is = none_lost all
unlost_by false all is = absurd (false≢true is)

-- of a parser that splits no sentence is rejected
pub known_unlost : (p : Parser) (all : List Evidence) → splits p ≡ true → All (λ e. e.loss ≡ None) (known_by p all)
known_unlost p all is = unlost_by (splits p) all is

module _ (P : Evidence → Type 0) (weaker : (e : Evidence) → P e → P (without_loss e)) where
  each_without : (all : List Evidence) → All P all → All P (map without_loss all)
  each_without [] each = All-nil P
  each_without (e ∷ all) each =
      All-cons P (without_loss e) (map without_loss all) (weaker e (All-head P e all each)) (each_without all (All-tail P e all each))

  each_by : (b : Bool) (all : List Evidence) → All P all → All P (cond b (map without_loss all) all)
  each_by true all each = each_without all each
  each_by false all each = each

  -- what holds of each, whatever sentence is rejected, holds of each
  pub known_each : (p : Parser) (all : List Evidence) → All P all → All P (known_by p all)
  known_each p all each = each_by (splits p) all each

none_by : (b : Bool) (all : List Evidence) → all ≡ [] → cond b (map without_loss all) all ≡ []
none_by true all none = ap (map without_loss) none
none_by false all none = none

-- of no entries nothing is known
pub known_none : (p : Parser) (all : List Evidence) → all ≡ [] → known_by p all ≡ []
known_none p all none = none_by (splits p) all none

-- the same by a graph that is kept
pub known_matched :
    {X : Type 0} (o : Option X) (P : X → Evidence → Type 0) → ((x : X) (e : Evidence) → P x e → P x (without_loss e))
    → (p : Parser) (all : List Evidence) → MatchOption o (all ≡ []) (λ x. All (P x) all)
    → MatchOption o (known_by p all ≡ []) (λ x. All (P x) (known_by p all))
known_matched None P weaker p all none = known_none p all none
known_matched (Some x) P weaker p all each = known_each (P x) (weaker x) p all each
