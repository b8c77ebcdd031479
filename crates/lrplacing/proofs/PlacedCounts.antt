-- placing a goto makes at least as many states to be closed as it makes states
use Rattle.std.proofs.Common.{◌≡◌, ◌≢◌, ℕ, suc, ◌+◌, ◌<◌, ◌≤◌, Bool, false, List, [], ◌∷◌, length, refl, arith, inl, inr, ⊎_elim}
use Rattle.std.proofs.lemmas.Bool.{cases_eq}
use Rattle.lrspec.specs.grammars.Grammar.{Symbol}
use Rattle.lrspec.specs.grammars.ItemSets.{Items, LooksIn}
use Rattle.lrplacing.specs.Construction.{Draft, core_at, closed_at, Gains, Grows, PlacesOne, PlacesAll}
use Rattle.lrplacing.specs.Construction as step
use Rattle.lrplacing.specs.Counts.{unclosed}
use Rattle.lrplacing.proofs.CoreGrowth.{placed_length, placed_last}
use Rattle.lrplacing.proofs.CountFacts.{open_count, open_most, unclosed_empty, unclosed_cons}

-- states of which each that was there is to be closed if it was, and each new one is
makes :
    (ss ts : List Draft) → length ss ≤ length ts → ((j : ℕ) → j < length ss → open_count (closed_at ss j) ≤ open_count (closed_at ts j))
    → ((j : ℕ) → length ss ≤ j → j < length ts → closed_at ts j ≡ false) → unclosed ss + length ts ≤ unclosed ts + length ss
makes [] [] l h n = omega (arith, unclosed_empty)
makes [] (t ∷ ts) l h n =
    omega (
      arith,
      unclosed_empty,
      unclosed_cons t ts,
      one_open t.is_closed (n 0 (omega arith) (omega arith)),
      makes [] ts (omega arith) (λ j b. absurd (omega arith)) (λ j m b. n (suc j) (omega arith) (omega arith)),
    )
  where
    one_open : (b : Bool) → b ≡ false → open_count b ≡ 1
    one_open b e = rw e refl
makes (s ∷ ss) [] l h n = absurd (omega arith)
makes (s ∷ ss) (t ∷ ts) l h n =
    omega (
      arith,
      unclosed_cons s ss,
      unclosed_cons t ts,
      h 0 (omega arith),
      makes ss ts (omega arith) (λ j b. h (suc j) (omega arith)) (λ j m b. n (suc j) (omega arith) (omega arith)),
    )

module _ (old new : List Draft) (from k : ℕ) (x : Symbol) (goto : Items) (m : PlacesOne old from x goto k new) where
  each_open : (j : ℕ) → j < length old → open_count (closed_at old j) ≤ open_count (closed_at new j)
  each_open j b =
      ⊎_elim
      (λ (e : j ≡ k). rw e (elim m.how [
        | inl h ↦ ⊎_elim
            (λ (u : ((p d t : ℕ) → LooksIn (core_at new k) p d t → LooksIn (core_at old k) p d t) × (closed_at new k ≡ closed_at old k)).
            rw (u.1) (omega arith))
            (λ (u : (closed_at new k ≡ false) × Gains (core_at old k) (core_at new k)). rw (u.0) (open_most (closed_at old k)))
            h.closed
        | inr h ↦ absurd (omega (arith, h.last, e, b))
      ]))
      (λ (n : j ≢ k). rw ((m.others j n).closed) (omega arith))
      (cases_eq j k)

  -- placing a goto makes at least as many states to be closed as it makes states
  pub places_unclosed : unclosed old + length new ≤ unclosed new + length old
  places_unclosed = makes old new (placed_length old new from k x goto m).0 each_open (λ j l b. (placed_last old new from k x goto m j l b).3)

  -- so closings and states to be closed stay no fewer than there are states
  pub places_made : (closings : ℕ) → length old ≤ closings + unclosed old → length new ≤ closings + unclosed new
  places_made closings h = omega (arith, h, places_unclosed)

-- placing gotos makes at least as many states to be closed as it makes states
pub places_all_unclosed :
    (from : ℕ) {old new : List Draft} {gs : List (Symbol × Items)} → PlacesAll from old gs new → unclosed old + length new ≤ unclosed new + length old
places_all_unclosed from step.PlacesAll.none = omega arith
places_all_unclosed from {old} {new} (step.PlacesAll.more {ts = ts} {x = x} {a = a} k m r) =
    omega (arith, places_unclosed old ts from k x a m, places_all_unclosed from r)

-- so closings and states to be closed stay no fewer than there are states
pub places_all_made :
    (from : ℕ) {old new : List Draft} {gs : List (Symbol × Items)} → PlacesAll from old gs new → (closings : ℕ)
    → length old ≤ closings + unclosed old → length new ≤ closings + unclosed new
places_all_made from r closings h = omega (arith, h, places_all_unclosed from r)
