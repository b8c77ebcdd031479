-- closing a state lowers how many are to be closed by one, and leaves what the states weigh
use Rattle.std.proofs.Common.{◌≡◌, ◌≢◌, ℕ, zero, suc, ◌+◌, ◌<◌, ◌≤◌, true, false, List, [], ◌∷◌, length, refl, ap, arith, ⊎_elim}
use Rattle.std.proofs.lemmas.Bool.{cases_eq}
use Rattle.lrspec.specs.grammars.Grammar.{Grammar}
use Rattle.lrplacing.specs.Construction.{Draft, draft_core, draft_closed, core_at, closed_at}
use Rattle.lrplacing.specs.Counts.{unclosed, looks_count, weight}
use Rattle.lrpager.specs.Closing.{Closes}
use Rattle.lrplacing.proofs.CountFacts.{open_count, unclosed_cons, weight_cons}

-- the same cores weigh the same
pub weight_same :
    (g : Grammar) (old new : List Draft) → length new ≡ length old → ((j : ℕ) → core_at new j ≡ core_at old j) → weight g new ≡ weight g old
weight_same g [] [] l e = refl
weight_same g [] (t ∷ ts) l e = absurd (omega arith)
weight_same g (s ∷ ss) [] l e = absurd (omega arith)
weight_same g (s ∷ ss) (t ∷ ts) l e =
    omega (arith, weight_cons g s ss, weight_cons g t ts, ap (looks_count g) (e 0), weight_same g ss ts (omega arith) (λ j. e (suc j)))

-- where the same states are closed, as many are to be closed
pub unclosed_same : (old new : List Draft) → length new ≡ length old → ((j : ℕ) → closed_at new j ≡ closed_at old j) → unclosed new ≡ unclosed old
unclosed_same [] [] l e = refl
unclosed_same [] (t ∷ ts) l e = absurd (omega arith)
unclosed_same (s ∷ ss) [] l e = absurd (omega arith)
unclosed_same (s ∷ ss) (t ∷ ts) l e =
    omega (arith, unclosed_cons s ss, unclosed_cons t ts, ap open_count (e 0), unclosed_same ss ts (omega arith) (λ j. e (suc j)))

-- where one state more is closed, one less is to be closed
one_less :
    (old new : List Draft) (i : ℕ) → length new ≡ length old → i < length old
    → ((j : ℕ) → j ≢ i → closed_at new j ≡ closed_at old j) → closed_at old i ≡ false → closed_at new i ≡ true
    → unclosed new + 1 ≡ unclosed old
one_less [] new i l b others was is = absurd (omega arith)
one_less (s ∷ ss) [] i l b others was is = absurd (omega arith)
one_less (s ∷ ss) (t ∷ ts) zero l b others was is =
    omega (
      arith,
      unclosed_cons s ss,
      unclosed_cons t ts,
      ap open_count was,
      ap open_count is,
      unclosed_same ss ts (omega arith) (λ j. others (suc j) (λ z. omega arith)),
    )
one_less (s ∷ ss) (t ∷ ts) (suc i) l b others was is =
    omega (
      arith,
      unclosed_cons s ss,
      unclosed_cons t ts,
      ap open_count (others 0 (λ z. omega arith)),
      one_less ss ts i (omega arith) (omega arith) (λ j n. others (suc j) (λ z. n (omega arith))) was is,
    )

module _ (g : Grammar) (old new : List Draft) (i : ℕ) (m : Closes old i new) where
  -- closing a state leaves every core
  pub closes_core : (j : ℕ) → core_at new j ≡ core_at old j
  closes_core j = ⊎_elim (λ (e : j ≡ i). rw e m.core) (λ (n : j ≢ i). ap draft_core (m.others j n)) (cases_eq j i)

  -- one state less is to be closed
  pub closes_unclosed : unclosed new + 1 ≡ unclosed old
  closes_unclosed = one_less old new i m.length_is m.below (λ j n. ap draft_closed (m.others j n)) m.was m.closed

  -- the states weigh what they weighed
  pub closes_weight : weight g new ≡ weight g old
  closes_weight = weight_same g old new m.length_is closes_core

  -- with one closing more, closings and states to be closed are no more than the states weigh
  pub closes_counted : (closings : ℕ) → closings + unclosed old ≤ weight g old → closings + 1 + unclosed new ≤ weight g new
  closes_counted closings h = omega (arith, h, closes_unclosed, closes_weight)

  -- and no fewer than there are states
  pub closes_made : (closings : ℕ) → length old ≤ closings + unclosed old → length new ≤ closings + 1 + unclosed new
  closes_made closings h = omega (arith, h, closes_unclosed, m.length_is)
