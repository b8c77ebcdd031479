-- what refusals say
pub use Rattle.lrpager.specs.Refusals.{IsLargeOnly}
pub use Rattle.lrcells.specs.Refusals.{TellsOne, IsAcceptReduce, IsTableRefusal}
use Rattle.std.specs.Prelude.{ℕ, None}
use Rattle.lrspec.specs.grammars.Grammar.{Grammar}
use Rattle.lrspec.specs.merging.Chains.{HasCauseOfSize}
use Rattle.lrspec.specs.tables.Conflicts.{IsLeastAcceptContested}
use Rattle.lrspec.specs.tables.LrTables.{IsExactAnswer}
use Rattle.lrcells.specs.Refusals.{IsAcceptReduce}
use Rattle.lrgraphs.specs.declared.errors.BuildError.{BuildError}
use Rattle.lrgraphs.specs.declared.errors.BuildError.TheVariants.{Table, TooLarge, Memory}

-- why a grammar has no graph with a table: there is a cause of size for indices up to `most`; or accepting is contested,
-- and the least production with which it is is told
abbrev pub IsBuildRefusal : {T : Type 0} → (T → ℕ) → ℕ → Grammar → BuildError T → Type 0
IsBuildRefusal number most g (Table e) = IsAcceptReduce number g (IsLeastAcceptContested g) e
IsBuildRefusal number most g TooLarge = HasCauseOfSize g most
IsBuildRefusal number most g Memory = Unit {0}

-- the headline, where the error is that the grammar has no table; the others say nothing of tables
abbrev pub IsExactError : {T : Type 0} → Grammar → BuildError T → Type 0
IsExactError g (Table e) = IsExactAnswer g None
IsExactError g TooLarge = Unit {0}
IsExactError g Memory = Unit {0}
