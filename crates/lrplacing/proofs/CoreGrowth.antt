-- placing a goto: cores only grow and keep their items, no state goes, and a state that is made comes last
use Rattle.std.proofs.Common.{◌≡◌, ◌≢◌, ℕ, ◌+◌, ◌<◌, ◌≤◌, List, false, length, sym, subst, inl, inr, ⊎_elim, arith}
use Rattle.std.proofs.lemmas.Bool.{cases_eq}
use Rattle.lrspec.specs.grammars.Grammar.{Symbol}
use Rattle.lrspec.specs.grammars.ItemSets.{Items, LooksIn, IsContained}
use Rattle.lrspec.specs.merging.WeakCompatibility.{SameItems, IsUnion}
use Rattle.lrspec.proofs.grammars.Closures.{contained_itself}
use Rattle.lritems.specs.ItemsOf.{Agree}
use Rattle.lrplacing.specs.Construction.{Draft, core_at, closed_at, TellsGrowth, PlacesOne}

-- one core grew into another: it keeps its items, and looks at least where it looked
pub record GrowsInto (a b : Items) : Type 0 where
  pub same : SameItems a b
  pub contained : IsContained a b

-- an equal core is one that grew by nothing
pub into_equal : (a b : Items) → b ≡ a → GrowsInto a b
into_equal a b e = record {
  same = λ p d. (λ h. rw e h, λ h. rw e at h);
  contained = rw e (contained_itself a);
}

into_union : {a b c : Items} → IsUnion a b c → GrowsInto a c
into_union u = record {
  same = λ p d. ((u.items p d).1, (u.items p d).0);
  contained = record { items = λ p d. (u.items p d).1; looks = λ p d t l. (u.looks p d t).1 (inl l) };
}

module _ (old new : List Draft) (from k : ℕ) (x : Symbol) (goto : Items) (m : PlacesOne old from x goto k new) where
  -- there are as many states as there were, or one more
  pub placed_length : (length old ≤ length new) × (length new ≤ length old + 1)
  placed_length = elim m.how [ inl h ↦ (omega (arith, h.length_is), omega (arith, h.length_is)) | inr h ↦ (omega (arith, h.length_is), omega (arith, h.length_is)) ]

  -- a core that was there only grows
  pub placed_core : (j : ℕ) → j < length old → GrowsInto (core_at old j) (core_at new j)
  placed_core j b =
      ⊎_elim
      (λ (e : j ≡ k). elim m.how [
        | inl h ↦ rw e (into_union h.union)
        | inr h ↦ absurd (omega (arith, h.last, e, b))
      ])
      (λ (n : j ≢ k). into_equal (core_at old j) (core_at new j) (m.others j n).core)
      (cases_eq j k)

  -- a state that was made is the last one
  pub placed_last : (j : ℕ) → length old ≤ j → j < length new → (j ≡ k) × (j ≡ length old) × (core_at new j ≡ goto) × (closed_at new j ≡ false)
  placed_last j l b =
      elim m.how [
        | inl h ↦ absurd (omega (arith, h.length_is, l, b))
        | inr h ↦
            let last : j ≡ k = omega (arith, h.length_is, h.last, l, b) in
            (last, omega (arith, h.length_is, l, b), rw last h.core, rw last h.closed)
      ]

-- what holds of two item sets holds of those that are equal to them
pub of_equal : (P : Items → Items → Type 0) (a b c d : Items) → c ≡ a → d ≡ b → P a b → P c d
of_equal P a b c d e f h = subst (λ x. P x d) (sym e) (subst (P a) (sym f) h)

-- item sets that agree look at the same
pub looks_of_agree : (a b : Items) → Agree a b → (p d t : ℕ) → LooksIn a p d t → LooksIn b p d t
looks_of_agree a b h p d t l = rw (h p d) at l

-- a core that is as it was has not grown
pub not_grown : (a b : Items) → b ≡ a → TellsGrowth false a b
not_grown a b e = (λ h. cc, λ h p d t l. subst (λ x. LooksIn x p d t) e l)
