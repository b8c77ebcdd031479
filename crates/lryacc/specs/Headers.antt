-- the beginning of a file of grmtools
use Rattle.std.specs.Prelude.{◌≡◌, ℕ, ◌+◌, List, Some, codes, slice_get}
use Rattle.lryacc.specs.declared.dialects.Dialect.{Dialect}
use Rattle.lryacc.specs.declared.dialects.Dialect.TheVariants.{Grmtools}
use Rattle.lryacc.specs.Gaps.{IsGap}
use Rattle.lryacc.specs.Words.{Are}

-- a text begins with `%grmtools` and a brace, with nothing but blanks and comments before each
pub record HasHeader (text : List ℕ) : Type 0 where
  -- where the word begins
  pub start : ℕ
  pub before : IsGap Grmtools text 0 start
  pub word : Are text start (start + 9) (codes "%grmtools")
  -- where the brace stands
  pub brace : ℕ
  pub between : IsGap Grmtools text (start + 9) brace
  pub opens : slice_get text brace ≡ Some 123

-- how a text is read that is taken for one of a dialect: as one of grmtools where it has the header, and else as it is taken
pub record IsReadAs (text : List ℕ) (taken read : Dialect) : Type 0 where
  pub header : HasHeader text → read ≡ Grmtools
  pub other : ¬ HasHeader text → read ≡ taken
