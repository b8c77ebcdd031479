-- entries at which no sentence is lost, as a page shows them
use Rattle.std.specs.Prelude.{List, All, Option, MatchOption}
use Rattle.lrspec.specs.grammars.Grammar.{Grammar}
use Rattle.lrspec.specs.merging.Graph.{Graph}
use Rattle.lrspec.specs.tables.Table.{Table}
use Rattle.lrkept.specs.Kept.{IsKept}
use Rattle.lrverdicts.specs.declared.conflicts.Entry.{Entry}
use Rattle.lrshown.specs.declared.steps.Step.TheVariants.{Reduce}
use Rattle.lrshown.specs.Ambiguities.{against}
use Rattle.lrshown.specs.Steps.{move_by}

-- by the graph, if one is kept, each of both moves that meet in the entry is kept: wherever it is a way on, there is one with what
-- the table does
abbrev pub IsShownKept : Grammar → Option Graph → Table → Entry → Type 0
IsShownKept g o b e =
    ∥ MatchOption o ⊥ (λ h.
    IsKept g h b e.state e.token (move_by (Reduce e.production))
    × IsKept g h b e.state e.token (move_by (against e.other))) ∥₁

-- it is so at each of the entries
abbrev pub AreShownKept : Grammar → Option Graph → Table → List Entry → Type 0
AreShownKept g o b entries = All (IsShownKept g o b) entries
