-- sentences with two trees
use Rattle.std.specs.Prelude.{◌≡◌, ◌≢◌, ℕ, ◌-◌, ◌==◌, ◌&&◌, ◌||◌, not, Bool, false, List, ◌++◌, All, Option, Some, None, IfSome, is_some, slice_get}
use Rattle.std.specs.Option.{ForSome, option_map_or}
use Rattle.lrspec.specs.grammars.Grammar.{Symbol, Grammar}
use Rattle.lrspec.specs.grammars.Trees.{Tree}
use Rattle.lryacc.specs.declared.numbering.FileGrammar.{FileGrammar}
use Rattle.lrconflicts.specs.Moves.{IsTreeBy}
use Rattle.lrambiguity.specs.Derivations.{IsDerivedBy}
use Rattle.lrambiguity.specs.Parts.{Ways, IsPartOf}
use Rattle.lrshown.specs.declared.ambiguities.Ambiguity.{Ambiguity}
use Rattle.lrshown.specs.declared.evidence.Evidence.{Evidence}
use Rattle.lrshown.specs.declared.steps.TwoTrees.{TwoTrees}
use Rattle.lrshown.specs.declared.steps.Step.{Step}
use Rattle.lrshown.specs.declared.steps.Step.TheVariants.{Shift, Reduce}
use Rattle.lrverdicts.specs.declared.conflicts.Entry.{Entry}
use Rattle.lrshown.specs.Steps.{moves_by, first_of, is_same_step, shifts}
use Rattle.lrshown.specs.ShownTexts.{choosing, start_of_sentence}

-- by its steps a rule derives symbols in two ways, which differ behind the dot
pub record HasTwoWays (g : Grammar) (form : TwoTrees) : Type 0 where
  pub rule : ℕ
  pub symbols : List Symbol
  pub first : IsDerivedBy g rule symbols (moves_by form.before.items ++ moves_by form.one.items)
  pub second : IsDerivedBy g rule symbols (moves_by form.before.items ++ moves_by form.other.items)
  pub differ : slice_get (moves_by form.one.items) 0 ≢ slice_get (moves_by form.other.items) 0

-- the two ways that are drawn part by the same steps as the trees
pub record PartAlike (form trees : TwoTrees) : Type 0 where
  pub one : slice_get (moves_by form.one.items) 0 ≡ slice_get (moves_by trees.one.items) 0
  pub other : slice_get (moves_by form.other.items) 0 ≡ slice_get (moves_by trees.other.items) 0

-- two ways to read the same, by their steps
abbrev pub ways_by : TwoTrees → Ways
ways_by t = record {
  before = moves_by t.before.items;
  one = moves_by t.one.items;
  other = moves_by t.other.items;
}

-- by its steps the sentence has two trees, which differ, and the two ways that are drawn of it are those of a part of it, which
-- part by the same steps
pub record HasTwoTrees (g : Grammar) (a : Ambiguity) : Type 0 where
  pub one : Tree
  pub other : Tree
  pub first : IsTreeBy g
      (moves_by a.trees.before.items ++ moves_by a.trees.one.items) a.tokens.items one
  pub second : IsTreeBy g
      (moves_by a.trees.before.items ++ moves_by a.trees.other.items) a.tokens.items other
  pub differ : one ≢ other
  pub drawn : HasTwoWays g a.form
  pub alike : PartAlike a.form a.trees
  pub part : IsPartOf g drawn.symbols (ways_by a.form) (ways_by a.trees)

-- a text that is told of an entry has two trees
abbrev pub IsProved : Grammar → Evidence → Type 0
IsProved g e = IfSome e.ambiguity (λ a. HasTwoTrees g a.value)

-- the same, without saying which trees these are
abbrev pub IsShown : Grammar → Ambiguity → Type 0
IsShown g a = ∥ HasTwoTrees g a ∥₁

abbrev pub AreShown : Grammar → List Evidence → Type 0
AreShown g evidence = All (λ e. ForSome e.ambiguity (λ a. IsShown g a.value)) evidence

-- what meets the reduction of an entry: a shift, or another reduction
abbrev pub against : Option ℕ → Step
against None = Shift
against (Some p) = Reduce p

-- whether two steps are these, in one order or the other
abbrev pub are_these : Step → Step → Step → Step → Bool
are_these s t one other =
    (is_same_step one s && is_same_step other t) || (is_same_step one t && is_same_step other s)

-- whether its trees part by what meets in an entry: one reduces there as the entry says, and the other does what meets that
abbrev pub is_of : Ambiguity → Entry → Bool
is_of a e = are_these (Reduce e.production) (against e.other) (first_of a.trees.one.items) (first_of a.trees.other.items)

-- whether a sentence with two trees is known of an entry
abbrev pub has_sentence : Evidence → Bool
has_sentence e = is_some e.ambiguity

-- whether one is known whose trees part by what meets in it
abbrev pub has_own_sentence : Evidence → Bool
has_own_sentence e = option_map_or (λ a. is_of a.value e.entry) e.ambiguity false

-- whether only merged states have it: what meets in it is real at another token alone
abbrev pub is_merged : Evidence → Bool
is_merged e = option_map_or (λ x. not (x.value.token == e.entry.token)) e.example false

-- how many tokens of what is shown stand before the dot
abbrev pub shown_dot : FileGrammar → Ambiguity → ℕ
shown_dot file a = shifts a.trees.before.items - choosing (start_of_sentence file a.tokens.items)
