-- types that are read up to a place within them
use Rattle.std.specs.Prelude.{◌≡◌, ℕ, ◌+◌, ◌<◌, Bool, true, false, List, length}
use Rattle.lryacc.specs.Comments.{IsPair}
use Rattle.lryacc.specs.RuleTypes.{IsInType}

-- the first colon of `::` stands before a place
pub record IsSecondColon (text : List ℕ) (from at depth : ℕ) : Type 0 where
  pub first : ℕ
  pub behind : at ≡ first + 1
  pub inside : at < length text
  pub between : IsInType text from first depth
  pub colons : IsPair text first 58 58

-- what was read of a type up to a place; whether the byte there is the second one of `::`
abbrev pub IsTypeUpTo : Bool → List ℕ → ℕ → ℕ → ℕ → Type 0
IsTypeUpTo true = IsSecondColon
IsTypeUpTo false = IsInType
