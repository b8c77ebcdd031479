-- what the refusals of a construction say
use Rattle.lrgraphs.specs.declared.errors.BuildError.{BuildError}
use Rattle.lrgraphs.specs.declared.errors.BuildError.TheVariants.{Table, TooLarge, Memory}

-- too large is answered only where `P` holds, and want of a table never; want of memory says nothing
abbrev pub IsLargeOnly : {T : Type 0} → Type 0 → BuildError T → Type 0
IsLargeOnly P (Table e) = ⊥
IsLargeOnly P TooLarge = P
IsLargeOnly P Memory = Unit {0}
