-- entries at which no sentence is lost
use Rattle.std.specs.Prelude.{List, All, Option, MatchOption}
use Rattle.lrspec.specs.grammars.Grammar.{Grammar}
use Rattle.lrspec.specs.merging.Graph.{Graph}
use Rattle.lrspec.specs.tables.Table.{Table}
use Rattle.lrkept.specs.Kept.{IsKept}
use Rattle.lrshown.specs.Ambiguities.{against}
use Rattle.lrshown.specs.declared.steps.Step.TheVariants.{Reduce}
use Rattle.lrshown.specs.Steps.{move_by}
use Rattle.lrverdicts.specs.declared.conflicts.Entry.{Entry}

-- each of both moves that meet in the entry is kept: wherever it is a way on, there is one with what the table does
pub record IsKeptEntry (g : Grammar) (h : Graph) (b : Table) (e : Entry) : Type 0 where
  pub one : IsKept g h b e.state e.token (move_by (Reduce e.production))
  pub other : IsKept g h b e.state e.token (move_by (against e.other))

-- by the graph, if one is kept; without one no entry is told
abbrev pub IsToldKept : Grammar → Option Graph → Table → Entry → Type 0
IsToldKept g o b e = MatchOption o ⊥ (λ h. IsKeptEntry g h b e)

-- what is told so of entries is so
abbrev pub AreToldKept : Grammar → Option Graph → Table → List Entry → Type 0
AreToldKept g o b entries = All (IsToldKept g o b) entries
