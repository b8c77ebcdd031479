use Rattle.std.proofs.Common.{◌≡◌, ◌<◌, ℕ, get_or}
use Rattle.std.specs.Prelude.{codes}
use Rattle.std.specs.declared.string.String.{String}
use Rattle.std.specs.String.{string_bytes}
use Rattle.std.proofs.Common.{Global}
use Rattle.lrparts.proofs.causes.reserved_name.Given as goal

abbrev pub invariant-loop-name : goal.invariant-loop-name
invariant-loop-name l =
    (k : ℕ) (d : String Global) → k < l.name-index → string_bytes (get_or l.parts.rules.items k d) ≡ codes "^" → ⊥
