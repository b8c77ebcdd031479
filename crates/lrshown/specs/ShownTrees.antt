-- trees as they are shown: whole, or without the middle of their chains
use Rattle.std.specs.Prelude.{◌≡◌, ◌≢◌, ℕ, Bool, List, [], ◌++◌}
use Rattle.lryacc.specs.declared.numbering.FileGrammar.{FileGrammar}
use Rattle.lrshown.specs.declared.steps.Step.{Step}
use Rattle.lrshown.specs.declared.steps.TwoTrees.{TwoTrees}
use Rattle.lrshown.specs.declared.chains.ShownTree.{ShownTree}
use Rattle.lrshown.specs.DrawnTrees.{Row, drawn_by}
use Rattle.lrshown.specs.StoredTrees.{IsDrawn}
use Rattle.lrshown.specs.Chains.{steps_kept, cuts_of}
use Rattle.lrshown.specs.BracketTexts.{row_words, with_dot}

-- the tree of steps before and behind the dot, of which nothing is left out
pub record IsWhole (file : FileGrammar) (before behind : List Step) (t : ShownTree) : Type 0 where
  pub drawn : IsDrawn t.tree (drawn_by file before behind)
  pub cuts_are : t.cuts.items ≡ []

-- the trees that are drawn of the steps that are kept
abbrev pub cut_trees : FileGrammar → List Step → List Step → Row
cut_trees file before behind = drawn_by file (steps_kept file before) (steps_kept file behind)

-- whether nodes are left out below each of theirs
abbrev pub cuts_in : FileGrammar → List Step → List Step → List Bool
cuts_in file before behind = cuts_of file before ++ cuts_of file behind

-- the same tree without the middle of its chains, none of which goes over the dot
pub record IsCut (file : FileGrammar) (before behind : List Step) (t : ShownTree) : Type 0 where
  pub drawn : IsDrawn t.tree (cut_trees file before behind)
  pub cuts_are : t.cuts.items ≡ cuts_in file before behind

-- the words of trees in brackets, without marks
abbrev pub unmarked : FileGrammar → List Bool → Row → List (List ℕ)
unmarked file cuts ts = with_dot 0 (row_words file [] cuts 0 ts)

-- those of the tree of steps, without the middle of its chains
abbrev pub cut_words : FileGrammar → List Step → List Step → List (List ℕ)
cut_words file before behind = unmarked file (cuts_in file before behind) (cut_trees file before behind)

-- both trees as they are shown
pub data AreShownTrees (file : FileGrammar) (t : TwoTrees) (one other : ShownTree) : Type 0 where
  -- without the middle of their chains, where the words differ
  Cut :
      IsCut file t.before.items t.one.items one
      → IsCut file t.before.items t.other.items other
      → cut_words file t.before.items t.one.items ≢ cut_words file t.before.items t.other.items
      → AreShownTrees file t one other
  -- whole, where they would look alike
  Whole :
      IsWhole file t.before.items t.one.items one
      → IsWhole file t.before.items t.other.items other
      → cut_words file t.before.items t.one.items ≡ cut_words file t.before.items t.other.items
      → AreShownTrees file t one other
