-- states that are listed by the fingerprints of their cores
use Rattle.std.proofs.Common.{◌≡◌, ◌≢◌, ap, ℕ, zero, suc, ◌+◌, ◌<◌, List, [], ◌∷◌, ◌++◌, length, get_or, refl, sym, arith, inl, inr}
use Rattle.std.specs.Prelude.{slice_get}
use Rattle.std.specs.List.{All, Contains}
use Rattle.std.specs.List.Sorted.{IsStrictlyIncreasing}
use Rattle.std.proofs.lemmas.List.Elements.{Contains-get_or, Contains-append_left, Contains-append_right, Contains-append_cases, All-contains, All-contains_itself}
use Rattle.std.proofs.lemmas.List.Kept.{AllPairs-from_increasing}
use Rattle.std.proofs.lemmas.List.Quantifiers.{all_pairs_push}
use Rattle.std.proofs.lemmas.Bool.{cases_lt, cases_eq}
use Rattle.lrspec.specs.grammars.ItemSets.{Items, AreUpwards}
use Rattle.lrspec.specs.merging.WeakCompatibility.{SameItems, Clash, IsUnion}
use Rattle.lrplacing.specs.Construction.{Draft, draft_core, core_at}
use Rattle.lrplacing.specs.CandidatesOf.{CandidateLists, listed_at, AreCandidates}
use Rattle.lritems.specs.Fingerprints.{fingerprint_of}
use Rattle.lritems.proofs.SameFingerprints.{same_fingerprint}

-- all that are listed are states
pub all_below : {ss : List Draft} {cs : CandidateLists} (ks : List ℕ) (n : ℕ) → AreCandidates ss cs → ks ≡ listed_at cs n → All (λ k. k < length ss) ks
all_below {ss} {cs} ks n c e = rw e (λ k x l. c.below n _ (All-contains_itself (listed_at cs n) k x l))

-- where what is listed at a goto's fingerprint clashes with it, every state with its items does
pub all_clash :
    {ss : List Draft} {cs : CandidateLists} {goto : Items} (ks : List ℕ) → AreCandidates ss cs → AreUpwards goto → ks ≡ listed_at cs (fingerprint_of goto)
    → All (λ k. SameItems (core_at ss k) goto → Clash (core_at ss k) goto) ks
    → (j : ℕ) → j < length ss → SameItems (core_at ss j) goto → Clash (core_at ss j) goto
all_clash {ss} {cs} {goto} ks c u e all j l s =
    All-contains (λ k. SameItems (core_at ss k) goto → Clash (core_at ss k) goto) ks j all (rw (sym e) at (c.listed j goto l u s)) s

-- a core that stays has its items
pub same_cores : {a b : Items} → b ≡ a → SameItems a b
same_cores e p d = rw e (λ h. h, λ h. h)

-- a core that took a goto in has its items
pub merged_items :
    (old new : List Draft) (k : ℕ) {goto : Items} → ((j : ℕ) → j ≢ k → slice_get new j ≡ slice_get old j) → IsUnion (core_at old k) goto (core_at new k)
    → (j : ℕ) → SameItems (core_at old j) (core_at new j)
merged_items old new k others union j =
    elim (cases_eq j k) [
      | inl e ↦ rw e (λ p d. ((union.items p d).1, (union.items p d).0))
      | inr n ↦ same_cores (ap draft_core (others j n))
    ]

-- states before one that was made have their cores
pub others_core :
    (old new : List Draft) → ((j : ℕ) → j ≢ length old → slice_get new j ≡ slice_get old j) → (j : ℕ) → j < length old → core_at new j ≡ core_at old j
others_core old new others j b = ap draft_core (others j (λ e. omega arith))

-- what has the items of one that has those of a third has these
same_then : (a b c : Items) → SameItems a b → SameItems b c → SameItems a c
same_then a b c s t p d = (λ h. (t p d).0 ((s p d).0 h), λ h. (s p d).1 ((t p d).1 h))

-- states that keep their items keep their places in the lists
pub candidates_kept :
    {old new : List Draft} {cs : CandidateLists} → length new ≡ length old → ((j : ℕ) → j < length old → SameItems (core_at old j) (core_at new j))
    → AreCandidates old cs → AreCandidates new cs
candidates_kept {old} {new} l s c = record {
  below = λ n k h. rw l (c.below n k h);
  listed = λ k a b u i. let b' = rw l at b in c.listed k a b' u (same_then (core_at old k) (core_at new k) a (s k b') i);
  upwards = c.upwards;
}

-- a number above all in a list that increases goes to its end
pushed_upwards :
    (ks : List ℕ) (n : ℕ) → IsStrictlyIncreasing ks → ((k : ℕ) → Contains ks k → k < n) → IsStrictlyIncreasing (ks ++ n ∷ [])
pushed_upwards ks n up below k l =
    all_pairs_push (λ i j. i < j) ks n (AllPairs-from_increasing ks up) (λ i d b. below (get_or ks i d) (Contains-get_or ks i d b)) k (k + 1) 0 (omega arith) l

one_alone : {n j : ℕ} → Contains (n ∷ []) j → j ≡ n
one_alone {n} {j} h = go h.0 h.1 h.2
  where
    go : (i : ℕ) → i < 1 → get_or (n ∷ []) i j ≡ j → j ≡ n
    go zero b e = sym e
    go (suc i) b e = absurd (omega arith)

the_one : (n : ℕ) → Contains (n ∷ []) n
the_one n = (0, omega arith, refl)

-- a state that was made is added at its fingerprint
module _
    (old new : List Draft) (cs ds : CandidateLists) (goto : Items) (longer : length new ≡ length old + 1)
    (others : (j : ℕ) → j < length old → core_at new j ≡ core_at old j) (core : core_at new (length old) ≡ goto) (up : AreUpwards goto)
    (here : listed_at ds (fingerprint_of goto) ≡ listed_at cs (fingerprint_of goto) ++ length old ∷ [])
    (there : (n : ℕ) → n ≢ fingerprint_of goto → listed_at ds n ≡ listed_at cs n) (c : AreCandidates old cs)
  where
    made_below : (n j : ℕ) → Contains (listed_at ds n) j → j < length new
    made_below n j h =
        elim (cases_eq n (fingerprint_of goto)) [
          | inl i ↦
              elim (Contains-append_cases (listed_at cs (fingerprint_of goto)) (length old ∷ []) j (rw (i, here) at h)) [
                | inl k ↦ omega (arith, c.below (fingerprint_of goto) j k, longer)
                | inr k ↦ omega (arith, one_alone k, longer)
              ]
          | inr i ↦ omega (arith, c.below n j (rw (there n i) at h), longer)
        ]

    still_listed : (n j : ℕ) → Contains (listed_at cs n) j → Contains (listed_at ds n) j
    still_listed n j h =
        elim (cases_eq n (fingerprint_of goto)) [
          | inl i ↦ rw (i, here) (Contains-append_left (listed_at cs (fingerprint_of goto)) (length old ∷ []) j (rw i at h))
          | inr i ↦ rw (there n i) h
        ]

    new_listed : (j : ℕ) (a : Items) → j ≡ length old → AreUpwards a → SameItems (core_at new j) a → Contains (listed_at ds (fingerprint_of a)) j
    new_listed j a i u s =
        let same : SameItems goto a = rw (i, core) at s in
        rw (i, ← same_fingerprint goto a up u same, here) (Contains-append_right (listed_at cs (fingerprint_of goto)) (length old ∷ []) (length old) (the_one (length old)))

    made_listed : (j : ℕ) (a : Items) → j < length new → AreUpwards a → SameItems (core_at new j) a → Contains (listed_at ds (fingerprint_of a)) j
    made_listed j a b u s =
        elim (cases_lt j (length old)) [
          | inl lt ↦ still_listed (fingerprint_of a) j (c.listed j a lt u (rw (others j lt) at s))
          | inr ge ↦ new_listed j a (omega (arith, longer)) u s
        ]

    made_upwards : (n : ℕ) → IsStrictlyIncreasing (listed_at ds n)
    made_upwards n =
        elim (cases_eq n (fingerprint_of goto)) [
          | inl i ↦ rw (i, here) (pushed_upwards (listed_at cs (fingerprint_of goto)) (length old) (c.upwards (fingerprint_of goto)) (c.below (fingerprint_of goto)))
          | inr i ↦ rw (there n i) (c.upwards n)
        ]

    pub candidates_made : AreCandidates new ds
    candidates_made = record {
      below = λ n j h. made_below n j h;
      listed = λ j a b u s. made_listed j a b u s;
      upwards = λ n. made_upwards n;
    }
