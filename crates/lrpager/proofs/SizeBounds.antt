-- the bound on closings, and that it fits 128 bits
use Rattle.std.proofs.Common.{ℕ, suc, ◌+◌, ◌*◌, ◌^◌, ◌<◌, ◌≤◌, List, [], ◌∷◌, length, arith}
use Rattle.std.specs.Prelude.{sum_by, slice_get}
use Rattle.std.proofs.lemmas.List.Sums.{sum_by-cons}
use Rattle.std.proofs.Math.Nat.{mul-le-mul}
use Rattle.lrspec.specs.grammars.Grammar.{Production, Grammar, token_count, body_or_none, item_count}
use Rattle.lrspec.specs.merging.Chains.{HasChainOf}
use Rattle.lrspec.specs.merging.Merged.{AreCounts}
use Rattle.lrgrammar.specs.GrammarSizes.{IsWithin}
use Rattle.lrplacing.specs.Construction.{Draft}
use Rattle.lrplacing.specs.Counts.{unclosed, weight}
use Rattle.lrplacing.proofs.CountFacts.{weight_most}

places_most :
    (ps : List Production) (m : ℕ) → ((k : ℕ) → length (body_or_none (slice_get ps k)) ≤ m) → sum_by (λ p. length p.body + 1) ps ≤ length ps * (m + 1)
places_most [] m h = omega arith
places_most (p ∷ ps) m h =
    let here : length p.body ≤ m = h 0 in
    omega (arith, sum_by-cons (λ q. length q.body + 1) p ps, here, places_most ps m (λ k. h (suc k)))

times_most : (a b c d : ℕ) → a ≤ b → c ≤ d → a * c ≤ b * d
times_most a b c d l m = mul-le-mul l m

-- a grammar within `most` has no more items than this
pub item_count_most : (most : ℕ) (g : Grammar) → IsWithin most g → item_count g ≤ most * (most + 1)
item_count_most most g h =
    omega (arith, places_most g.productions most h.bodies, times_most (length g.productions) most (most + 1) (most + 1) h.productions (omega arith))

-- the bound on closings fits 128 bits, where `most` fits 32
pub closings_bound_fits : (most : ℕ) (g : Grammar) → IsWithin most g → most < 2 ^ 32 → most * (1 + item_count g * token_count g) < 2 ^ 128
closings_bound_fits most g h small =
    let items : item_count g ≤ 4294967295 * 4294967296 = omega (arith, item_count_most most g h, times_most most 4294967295 (most + 1) 4294967296 (omega arith) (omega arith)) in
    let pairs : item_count g * token_count g ≤ 4294967295 * 4294967296 * 4294967295 = times_most (item_count g) (4294967295 * 4294967296) (token_count g) 4294967295 items (omega (arith, h.tokens, small)) in
    omega (arith, times_most most 4294967295 (1 + item_count g * token_count g) (1 + 4294967295 * 4294967296 * 4294967295) (omega arith) (omega arith))

-- states within `most` weigh at most the bound
pub weight_within : (g : Grammar) (ss : List Draft) (most : ℕ) → length ss ≤ most → weight g ss ≤ most * (1 + item_count g * token_count g)
weight_within g ss most h =
    omega (arith, weight_most g ss, times_most (length ss) most (1 + item_count g * token_count g) (1 + item_count g * token_count g) h (omega arith))

-- closings that with the states to be closed are no more than the states weigh are within the bound
pub closings_most :
    (g : Grammar) (ss : List Draft) (closings : ℕ) → closings + unclosed ss ≤ weight g ss → closings ≤ length ss * (1 + item_count g * token_count g)
closings_most g ss closings h = omega (arith, h, weight_most g ss)

-- and fit 128 bits
pub closings_fit :
    (most : ℕ) (g : Grammar) (ss : List Draft) (closings : ℕ) → IsWithin most g → most < 2 ^ 32 → length ss ≤ most
    → closings + unclosed ss ≤ weight g ss → closings < 2 ^ 128
closings_fit most g ss closings h small l c = omega (arith, c, weight_within g ss most l, closings_bound_fits most g h small)

-- there are no more states than a chain has item sets
pub chain_of_counts : (g : Grammar) (most n m k : ℕ) → AreCounts g most n m k → HasChainOf g n
chain_of_counts g most n m k c = let (chain, is, same) = c.chain in (chain, is, omega (arith, same, c.states))
