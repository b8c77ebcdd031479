-- how many states are to be closed and what they weigh: their bounds, and when no state is to be closed
use Rattle.std.proofs.Common.{◌≡◌, ℕ, zero, suc, ◌+◌, ◌*◌, ◌<◌, ◌≤◌, Bool, true, false, cond, not, List, [], ◌∷◌, length, refl, ap, arith}
use Rattle.std.proofs.lemmas.List.Sums.{sum_by-cons}
use Rattle.lrspec.specs.grammars.Grammar.{Grammar, token_count, item_count}
use Rattle.lrplacing.specs.Construction.{Draft, closed_at}
use Rattle.lrplacing.specs.Counts.{unclosed, looks_count, weight}
use Rattle.lrplacing.specs.Invariant.{AreClosed}
use Rattle.lrplacing.proofs.LooksCount.{looks_count_most}

-- one where the state is to be closed
abbrev pub open_count : Bool → ℕ
open_count b = cond (not b) 1 0

-- a state is counted at most once
pub open_most : (b : Bool) → open_count b ≤ 1
open_most true = omega arith
open_most false = omega arith

-- of no states none is to be closed
pub unclosed_empty : unclosed [] ≡ 0
unfolding unclosed
unclosed_empty = refl

-- one state more counts where it is to be closed
pub unclosed_cons : (s : Draft) (ss : List Draft) → unclosed (s ∷ ss) ≡ open_count s.is_closed + unclosed ss
unfolding unclosed
unclosed_cons s ss = sum_by-cons (λ t. cond (not t.is_closed) 1 0) s ss

-- no states weigh nothing
pub weight_empty : (g : Grammar) → weight g [] ≡ 0
unfolding weight
weight_empty g = refl

-- one state more weighs one and what its core looks at
pub weight_cons : (g : Grammar) (s : Draft) (ss : List Draft) → weight g (s ∷ ss) ≡ 1 + looks_count g s.core + weight g ss
unfolding weight
weight_cons g s ss = sum_by-cons (λ t. 1 + looks_count g t.core) s ss

-- so many states weigh at most so much
pub weight_most : (g : Grammar) (ss : List Draft) → weight g ss ≤ length ss * (1 + item_count g * token_count g)
weight_most g [] = omega (arith, weight_empty g)
weight_most g (s ∷ ss) = omega (arith, weight_cons g s ss, looks_count_most g s.core, weight_most g ss)

-- no more states are to be closed than there are
pub unclosed_most : (ss : List Draft) → unclosed ss ≤ length ss
unclosed_most [] = omega (arith, unclosed_empty)
unclosed_most (s ∷ ss) = omega (arith, unclosed_cons s ss, open_most s.is_closed, unclosed_most ss)

-- and there are no more than they weigh
pub length_le_weight : (g : Grammar) (ss : List Draft) → length ss ≤ weight g ss
length_le_weight g [] = omega arith
length_le_weight g (s ∷ ss) = omega (arith, weight_cons g s ss, length_le_weight g ss)

-- at the start one state is to be closed
pub start_counts : (g : Grammar) (ss : List Draft) → length ss ≡ 1 → closed_at ss 0 ≡ false → (unclosed ss ≡ 1) × (1 ≤ weight g ss)
start_counts g [] l e = absurd (omega arith)
start_counts g (s ∷ []) l e = (omega (arith, unclosed_cons s [], unclosed_empty, ap open_count e), omega (arith, l, length_le_weight g (s ∷ [])))
start_counts g (s ∷ t ∷ ss) l e = absurd (omega arith)

-- ---- where no state is to be closed

closed_by_count : (b : Bool) → open_count b ≡ 0 → b ≡ true
closed_by_count true e = refl
closed_by_count false e = absurd (omega arith)

count_of_closed : (b : Bool) → b ≡ true → open_count b ≡ 0
count_of_closed b e = rw e refl

-- where none is to be closed all are closed
pub closed_of_none_unclosed : (ss : List Draft) → unclosed ss ≡ 0 → AreClosed ss
closed_of_none_unclosed [] e k b = absurd (omega arith)
closed_of_none_unclosed (s ∷ ss) e zero b = closed_by_count s.is_closed (omega (arith, unclosed_cons s ss, e))
closed_of_none_unclosed (s ∷ ss) e (suc k) b = closed_of_none_unclosed ss (omega (arith, unclosed_cons s ss, e)) k (omega arith)

-- and the other way round
pub none_unclosed_of_closed : (ss : List Draft) → AreClosed ss → unclosed ss ≡ 0
none_unclosed_of_closed [] h = unclosed_empty
none_unclosed_of_closed (s ∷ ss) h =
    omega (arith, unclosed_cons s ss, count_of_closed s.is_closed (h 0 (omega arith)), none_unclosed_of_closed ss (λ k b. h (suc k) (omega arith)))

-- a state that is to be closed is counted
pub unclosed_at : (ss : List Draft) (k : ℕ) → k < length ss → closed_at ss k ≡ false → 0 < unclosed ss
unclosed_at [] k b e = absurd (omega arith)
unclosed_at (s ∷ ss) zero b e = omega (arith, unclosed_cons s ss, ap open_count e)
unclosed_at (s ∷ ss) (suc k) b e = omega (arith, unclosed_cons s ss, unclosed_at ss k (omega arith) e)

-- and where one is counted there is one
pub some_unclosed : (ss : List Draft) → 0 < unclosed ss → (k : ℕ) × (k < length ss) × (closed_at ss k ≡ false)
some_unclosed [] h = absurd (omega (arith, unclosed_empty, h))
some_unclosed (s ∷ ss) h = by_closed s.is_closed refl (λ i. some_unclosed ss i)
  where
    by_closed :
        (o : Bool) → s.is_closed ≡ o → (0 < unclosed ss → (k : ℕ) × (k < length ss) × (closed_at ss k ≡ false))
        → (k : ℕ) × (k < length (s ∷ ss)) × (closed_at (s ∷ ss) k ≡ false)
    by_closed false e later = (0, omega arith, e)
    by_closed true e later =
        let (k, b, i) = later (omega (arith, h, unclosed_cons s ss, ap open_count e)) in (suc k, omega arith, i)
