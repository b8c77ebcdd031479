-- that a grammar is ambiguous at a conflict
use Rattle.std.specs.Prelude.{◌≡◌, ◌≢◌, ℕ, List, ◌++◌, map, slice_get}
use Rattle.lrspec.specs.grammars.Grammar.{Grammar}
use Rattle.lrspec.specs.merging.Graph.{Graph}
use Rattle.lrgrammar.specs.Symbols.{symbol_of, number_of}
use Rattle.lrconflicts.specs.declared.moves.Move as stored
use Rattle.lrambiguity.specs.Derivations.{IsDerivedBy}
use Rattle.lrambiguity.specs.Partings.{BeginsWith}
use Rattle.lrambiguity.specs.Parts.{Ways, IsPartOf}
use Rattle.lrambiguity.specs.declared.ambiguities.Ambiguity.{Ambiguity}
use Rattle.lrambiguity.specs.declared.partings.Contest.{Contest}
use Rattle.lrconflicts.specs.StoredMoves.{move_of, moves_stored}
use Rattle.lrambiguity.specs.StoredAmbiguities.{IsAmbiguity, AmbiguityPartsAt}
use Rattle.lrconflicts.specs.declared.conflicts.Conflict.{Conflict}
use Rattle.lrforms.specs.declared.ambiguous.Form.{Form}
use Rattle.lrreasons.specs.declared.ambiguities.ProvedAmbiguity.{ProvedAmbiguity}
use Rattle.lrreasons.specs.Parts.{ways_of}

-- the rule derives the form by the moves before the dot and those behind it
abbrev pub IsWayOf : Grammar → Form → List (stored.Move ℕ) → Type 0
IsWayOf g f after =
    IsDerivedBy g f.rule.0 (map (symbol_of number_of) f.symbols.items)
    (moves_stored number_of f.ways.before.items ++ moves_stored number_of after)

-- the rule derives the form in two ways
pub record IsAmbiguousForm (g : Grammar) (f : Form) : Type 0 where
  pub first : IsWayOf g f f.ways.first.items
  pub second : IsWayOf g f f.ways.second.items
  pub part : slice_get f.ways.first.items 0 ≢ slice_get f.ways.second.items 0

-- the form is a part of what is read in these ways
abbrev pub IsPart : Grammar → Form → Ways → Type 0
IsPart g f ways = IsPartOf g (map (symbol_of number_of) f.symbols.items) (ways_of f.ways) ways

-- its two ways part by the moves of the contest
pub record FormPartsBy (f : Form) (c : Contest ℕ) : Type 0 where
  pub first : BeginsWith (moves_stored number_of f.ways.first.items) (move_of number_of c.one)
  pub second : BeginsWith (moves_stored number_of f.ways.second.items) (move_of number_of c.other)

-- the moves to the two trees of a text
abbrev pub ways_to : Ambiguity ℕ → Ways
ways_to a = record {
  before = moves_stored number_of a.before.items;
  one = moves_stored number_of a.one.items;
  other = moves_stored number_of a.other.items;
}

-- a rule derives a form in two ways, a text has two trees, these part at the state and the token of the conflict, the two ways
-- part by the same moves, and the form is a part of the text
pub record IsProofOf (g : Grammar) (h : Graph) (c : Conflict ℕ) (a : ProvedAmbiguity) : Type 0 where
  pub state : a.contest.state ≡ c.state
  pub token : a.contest.token ≡ c.token
  pub form : IsAmbiguousForm g a.form
  pub form_parts : FormPartsBy a.form a.contest
  pub trees : IsAmbiguity number_of g a.ambiguity
  pub parts : AmbiguityPartsAt number_of g h a.ambiguity a.contest
  pub part : IsPart g a.form (ways_to a.ambiguity)
