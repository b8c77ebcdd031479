-- no token has a precedence exactly if the list of precedences has none
use Rattle.std.proofs.Common.{◌≡◌, ℕ, zero, suc, List, [], ◌∷◌, Option, None, Some, refl, ◌↔◌, arith}
use Rattle.std.specs.Prelude.{slice_get}
use Rattle.std.specs.List.{Any}
use Rattle.std.specs.Option.{IsSome, option_and_then}
use Rattle.lrspec.specs.grammars.Grammar.{Precedence, Grammar}
use Rattle.lrspec.specs.tables.LrTables.{HasNoPrecedences}

-- what the list has at a place, None where it has none
abbrev at : List (Option Precedence) → ℕ → Option Precedence
at os k = option_and_then (λ o. o) (slice_get os k)

-- where no place has a precedence, none of the list is one
none_of_list : (os : List (Option Precedence)) → ((t : ℕ) → at os t ≡ None) → Any IsSome os → ⊥
none_of_list [] none (k, x, l, e, s) = omega (arith, l)
none_of_list (o ∷ os) none (zero, x, l, e, s) = let n : o ≡ None = none 0 in cc
none_of_list (o ∷ os) none (suc k, x, l, e, s) = none_of_list os (λ t. none (suc t)) (k, x, omega (arith, l), e, s)

-- where none of the list is a precedence, no place has one
none_at : (os : List (Option Precedence)) → (Any IsSome os → ⊥) → (t : ℕ) → at os t ≡ None
none_at [] none t = refl
none_at (None ∷ os) none zero = refl
none_at (Some p ∷ os) none zero = absurd (none (0, Some p, omega arith, refl, refl))
none_at (o ∷ os) none (suc t) = none_at os (λ i. none (suc i.0, i.1, omega (arith, i.2), i.3, i.4)) t

-- no token has a precedence exactly if the list has none
pub no_precedences : (g : Grammar) → HasNoPrecedences g ↔ ¬ (Any IsSome g.token_precedences)
no_precedences g = (none_of_list g.token_precedences, none_at g.token_precedences)
