-- tables that are told to lose no sentence
use Rattle.std.specs.Prelude.{◌≡◌, Option, MatchOption}
use Rattle.lrspec.specs.grammars.Grammar.{Grammar}
use Rattle.lrspec.specs.merging.Graph.{Graph}
use Rattle.lrspec.specs.tables.Table.{Table}
pub use Rattle.lrlosses.specs.declared.exactness.Exactness.{Exactness}
pub use Rattle.lrlosses.specs.declared.exactness.Exactness.TheVariants.{Exact, ButAtErrors, Open}
pub use Rattle.lrlosses.specs.Exactness.{IsExact, IsExactButAtErrors}

-- there is a graph, by which the machine rejects sentences only at errors for which more than one move contends: `%nonassoc`
-- makes these
abbrev pub RejectsAtErrorsAlone : Grammar → Option Graph → Table → Type 0
RejectsAtErrorsAlone g o b = MatchOption o ⊥ (λ h. IsExactButAtErrors g h b)

-- what is told of how exact the table is holds
pub record IsToldExact (g : Grammar) (o : Option Graph) (b : Table) (e : Exactness) : Type 0 where
  -- the machine accepts exactly the sentences
  pub exact : e ≡ Exact → IsExact g b
  -- it does so but for those errors
  pub but_at_errors : e ≡ ButAtErrors → RejectsAtErrorsAlone g o b
