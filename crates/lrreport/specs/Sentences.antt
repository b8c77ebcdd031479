-- sentences that are told of entries
use Rattle.std.specs.Prelude.{◌≡◌, ℕ, true, List, Some, Contains}
use Rattle.std.specs.Option.{option_map}
use Rattle.lrspec.specs.grammars.Grammar.{Grammar}
use Rattle.lrspec.specs.tables.Table.{Table}
use Rattle.lrverdicts.specs.declared.conflicts.Entry.{Entry}
use Rattle.lrshown.specs.declared.ambiguities.Ambiguity.{Ambiguity}
use Rattle.lrshown.specs.declared.evidence.Evidence.{Evidence}
use Rattle.lrshown.specs.declared.losses.Loss.{Loss}
use Rattle.lrshown.specs.Ambiguities.{is_of}
use Rattle.lrshown.specs.Losses.{IsLostAt}

-- the trees of a sentence part by what meets in one of the entries
pub record IsOfOne (entries : List Entry) (a : Ambiguity) : Type 0 where
  pub entry : Entry
  pub among : Contains entries entry
  pub own : is_of a entry ≡ true

-- a sentence is known of one of the entries, which is one at this token, and its trees part by what meets there
pub record IsKnownAt (meeting : List Evidence) (token : ℕ) (a : Ambiguity) : Type 0 where
  pub evidence : Evidence
  pub among : Contains meeting evidence
  pub at : evidence.entry.token ≡ token
  pub known : option_map (λ text. text.value) evidence.ambiguity ≡ Some a
  pub own : is_of a evidence.entry ≡ true

-- the machine of the table rejects the sentence, since it goes wrong at one of the entries
pub record IsLostAtOne (g : Grammar) (b : Table) (entries : List Entry) (l : Loss) : Type 0 where
  pub entry : Entry
  pub among : Contains entries entry
  pub lost : IsLostAt g b entry.state entry.token l
