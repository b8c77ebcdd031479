-- sentences that the parser rejects, as they are told of entries
use Rattle.std.specs.Prelude.{IfSome, IsSome}
use Rattle.lrspec.specs.grammars.Grammar.{Grammar}
use Rattle.lrspec.specs.merging.Graph.{Graph}
use Rattle.lrspec.specs.tables.Table.{Table}
use Rattle.lrshown.specs.declared.evidence.Evidence.{Evidence}
use Rattle.lrshown.specs.declared.losses.Loss.{Loss}
use Rattle.lrentries.specs.Losses.{Searched, StopsWithoutShift, IsDoomed, IsDoomedIn, IsFoundLoss}
pub use Rattle.lrshown.specs.Losses.{IsLostAt, IsLoss, IsLostAtEntry}

-- a sentence that is told of an entry is rejected where its token can't be shifted
abbrev pub StopsAtEntry : Grammar → Graph → Table → Evidence → Type 0
StopsAtEntry g h b e = IfSome e.loss (λ l. StopsWithoutShift g h b l.value)

-- a sentence that is told of an entry beside one with two trees is doomed there
abbrev pub IsDoomedAtEntry : Grammar → Table → Evidence → Type 0
IsDoomedAtEntry g b e = IsSome e.ambiguity → IfSome e.loss (λ l. IsDoomed g b l.value)

-- a sentence that is told of an entry is found there, and doomed where one with two trees is told too
pub record IsFoundFor (x : Searched) (e : Evidence) (l : Loss) : Type 0 where
  pub found : IsFoundLoss x e.entry.state e.entry.token l
  pub doomed : IsSome e.ambiguity → IsDoomedIn x l

-- so is one that is told of an entry, if there is one
abbrev pub IsFoundAtEntry : Searched → Evidence → Type 0
IsFoundAtEntry x e = IfSome e.loss (λ l. IsFoundFor x e l.value)
