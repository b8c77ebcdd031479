-- where the search for a row of some columns may begin; sets of columns are the bits of words
use Rattle.std.specs.Prelude.{ℕ, ◌+◌, ◌-◌, ◌<◌, ◌≤◌, List}
use Rattle.std.specs.List.{All}
use Rattle.lrsparse.specs.declared.sparsevec.starts.ColumnSet.{ColumnSet}
use Rattle.lrsparse.specs.declared.sparsevec.starts.Starts.{Starts}
use Rattle.lrsparse.specs.Owned.{IsOwned}

-- the column is in the set: how far behind the first one it stands has its bit in the words
abbrev pub IsIn : ColumnSet → ℕ → Type 0
IsIn set column = (set.first ≤ column) × IsOwned set.words.items (column - set.first)

-- at the displacement none of these columns meets an owned place
abbrev pub SetMeetsNone : List ℕ → ColumnSet → ℕ → Type 0
SetMeetsNone words columns displacement =
    (column : ℕ) → IsIn columns column → ¬ (IsOwned words (displacement + column))

-- at each displacement below this one some of these columns meets an owned place
abbrev pub FitNowhereBelow : List ℕ → ColumnSet → ℕ → Type 0
FitNowhereBelow words columns displacement =
    (k : ℕ) → k < displacement → ¬ (SetMeetsNone words columns k)

-- the columns of each start fit nowhere below its displacement
abbrev pub AreStarts : Starts → List ℕ → Type 0
AreStarts starts words =
    All (λ s. FitNowhereBelow words s.columns s.displacement) starts.all.items
