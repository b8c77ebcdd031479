-- placing a goto makes no more states to be closed than it adds weight
use Rattle.std.proofs.Common.{◌≡◌, ◌≢◌, ℕ, suc, ◌+◌, ◌<◌, ◌≤◌, false, List, [], ◌∷◌, length, refl, arith, inl, inr, ⊎_elim}
use Rattle.std.proofs.lemmas.Bool.{cases_eq}
use Rattle.lrspec.specs.grammars.Grammar.{Symbol, Grammar}
use Rattle.lrspec.specs.grammars.ItemSets.{Items, LooksIn, Fits}
use Rattle.lrspec.proofs.grammars.ListMembers.{Among}
use Rattle.lrplacing.specs.Construction.{Draft, core_at, closed_at, Gains, Grows, PlacesOne, PlacesAll}
use Rattle.lrplacing.specs.Construction as step
use Rattle.lrplacing.specs.Counts.{unclosed, looks_count, weight}
use Rattle.lrplacing.proofs.CoreGrowth.{placed_length}
use Rattle.lrplacing.proofs.LooksCount.{looks_count_le, looks_count_gains, look_fits}
use Rattle.lrplacing.proofs.CountFacts.{open_count, open_most, unclosed_empty, unclosed_cons, unclosed_most, weight_empty, weight_cons, length_le_weight}

-- states of which each that was there weighs as much as it did, and as much more as there is more to be closed
weighs :
    (g : Grammar) (ss ts : List Draft) → length ss ≤ length ts
    → ((j : ℕ) → j < length ss
    → open_count (closed_at ts j) + looks_count g (core_at ss j) ≤ open_count (closed_at ss j) + looks_count g (core_at ts j))
    → unclosed ts + weight g ss ≤ unclosed ss + weight g ts
weighs g [] ts l h = omega (arith, unclosed_empty, weight_empty g, unclosed_most ts, length_le_weight g ts)
weighs g (s ∷ ss) [] l h = absurd (omega arith)
weighs g (s ∷ ss) (t ∷ ts) l h =
    omega (
      arith,
      unclosed_cons s ss,
      unclosed_cons t ts,
      weight_cons g s ss,
      weight_cons g t ts,
      h 0 (omega arith),
      weighs g ss ts (omega arith) (λ j b. h (suc j) (omega arith)),
    )

module _ (g : Grammar) (old new : List Draft) (from k : ℕ) (x : Symbol) (goto : Items) (m : PlacesOne old from x goto k new) where
  -- where the goto grew a core, it gained a token of the grammar at an item of the grammar
  gains_weight : Fits g goto → Grows old new k goto → Gains (core_at old k) (core_at new k) → looks_count g (core_at old k) < looks_count g (core_at new k)
  gains_weight fits h n =
      let gained : LooksIn goto n.p n.d n.t = ⊎_elim
      (λ (l : LooksIn (core_at old k) n.p n.d n.t). absurd (n.before l))
      (λ (l : LooksIn goto n.p n.d n.t). l)
      ((h.union.looks n.p n.d n.t).0 n.now) in
      let (i, j, b) = look_fits goto n.p n.d n.t fits gained in
      looks_count_gains g (core_at old k) (core_at new k) (λ p d t l. (h.union.looks p d t).1 (inl l)) n i j b

  each_weighs :
      Fits g goto → (j : ℕ) → j < length old
      → open_count (closed_at new j) + looks_count g (core_at old j) ≤ open_count (closed_at old j) + looks_count g (core_at new j)
  each_weighs fits j b =
      ⊎_elim
      (λ (e : j ≡ k). rw e (elim m.how [
        | inl h ↦ ⊎_elim
            (λ (u : ((p d t : ℕ) → LooksIn (core_at new k) p d t → LooksIn (core_at old k) p d t) × (closed_at new k ≡ closed_at old k)).
            rw (u.1) (omega (arith, looks_count_le g (core_at old k) (core_at new k) (λ p d t l. (h.union.looks p d t).1 (inl l)))))
            (λ (u : (closed_at new k ≡ false) × Gains (core_at old k) (core_at new k)).
            omega (arith, open_most (closed_at new k), gains_weight fits h u.1))
            h.closed
        | inr h ↦ absurd (omega (arith, h.last, e, b))
      ]))
      (λ (n : j ≢ k). rw ((m.others j n).core, (m.others j n).closed) (omega arith))
      (cases_eq j k)

  -- placing a goto makes no more states to be closed than it adds weight
  pub places_weight : Fits g goto → unclosed new + weight g old ≤ unclosed old + weight g new
  places_weight fits = weighs g old new (placed_length old new from k x goto m).0 (each_weighs fits)

  -- so closings and states to be closed stay no more than the states weigh
  pub places_counted : Fits g goto → (closings : ℕ) → closings + unclosed old ≤ weight g old → closings + unclosed new ≤ weight g new
  places_counted fits closings h = omega (arith, h, places_weight fits)

-- placing gotos makes no more states to be closed than it adds weight
pub places_all_weight :
    (g : Grammar) (from : ℕ) {old new : List Draft} {gs : List (Symbol × Items)} → PlacesAll from old gs new
    → ((x : Symbol) (a : Items) → Among {X = Symbol × Items} (x, a) gs → Fits g a)
    → unclosed new + weight g old ≤ unclosed old + weight g new
places_all_weight g from step.PlacesAll.none fits = omega arith
places_all_weight g from {old} {new} (step.PlacesAll.more {ts = ts} {x = x} {a = a} k m r) fits =
    omega (arith, places_weight g old ts from k x a m (fits x a (inl refl)), places_all_weight g from r (λ y b i. fits y b (inr i)))

-- so closings and states to be closed stay no more than the states weigh
pub places_all_counted :
    (g : Grammar) (from : ℕ) {old new : List Draft} {gs : List (Symbol × Items)} → PlacesAll from old gs new
    → ((x : Symbol) (a : Items) → Among {X = Symbol × Items} (x, a) gs → Fits g a) → (closings : ℕ) → closings + unclosed old ≤ weight g old
    → closings + unclosed new ≤ weight g new
places_all_counted g from r fits closings h = omega (arith, h, places_all_weight g from r fits)
