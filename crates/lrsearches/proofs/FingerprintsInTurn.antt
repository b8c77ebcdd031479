-- fingerprints of cores, one after another
use Rattle.std.proofs.Common.{◌≡◌, ℕ, ◌+◌, ◌<◌, List, [], ◌∷◌, ◌++◌, length, get_or, sym, ◌∙◌, arith, inl, inr}
use Rattle.std.proofs.lemmas.Bool.{cases_eq}
use Rattle.std.proofs.lemmas.List.{get_or_append_left, get_or_push}
use Rattle.lrspec.specs.grammars.ItemSets.{AreUpwards}
use Rattle.lrspec.specs.merging.Graph.{Graph, core_of}
use Rattle.lrspec.specs.merging.WeakCompatibility.{SameItems}
use Rattle.lrgrammar.proofs.Turns.{count_more}
use Rattle.lritems.specs.Fingerprints.{fingerprint_of}
use Rattle.lritems.proofs.SameFingerprints.{same_fingerprint}
use Rattle.lrsearches.specs.StoredWays.{AreFingerprints}

-- the cores of the states below `n` have their fingerprints
pub record AreFingerprintsBelow (h : Graph) (n : ℕ) (fs : List ℕ) : Type 0 where
  pub states : length fs ≡ n
  pub cores : (s d : ℕ) → s < n → get_or fs s d ≡ fingerprint_of (core_of h s)
  pub upwards : (s : ℕ) → s < n → AreUpwards (core_of h s)

pub next_fingerprints :
    (h : Graph) (n : ℕ) (old new : List ℕ) (x : ℕ) → new ≡ old ++ x ∷ [] → x ≡ fingerprint_of (core_of h n) → AreUpwards (core_of h n)
    → AreFingerprintsBelow h n old → AreFingerprintsBelow h (n + 1) new
next_fingerprints h n old new x pushed made here k = record {
  states = count_more old new x n pushed k.states;
  cores = λ s d l. elim (cases_eq s n) [
    | inl e ↦ rw (pushed, e) (get_or_push old x d n k.states ∙ made)
    | inr e ↦ rw pushed (get_or_append_left old (x ∷ []) d s (omega (arith, l, e, k.states)) ∙ k.cores s d (omega (arith, l, e)))
  ];
  upwards = λ s l. elim (cases_eq s n) [ inl e ↦ rw e here | inr e ↦ k.upwards s (omega (arith, l, e)) ];
}

pub end_fingerprints : (h : Graph) (n : ℕ) (fs : List ℕ) → n ≡ length h → AreFingerprintsBelow h n fs → AreFingerprints h fs
end_fingerprints h n fs e k = record { states = k.states ∙ e; cores = λ s d l. k.cores s d (rw e l); upwards = λ s l. k.upwards s (rw e l) }

-- so cores with the same items have the same fingerprint
pub of_cores :
    (h : Graph) (fs : List ℕ) (s u d e : ℕ) → AreFingerprints h fs → s < length h → u < length h → SameItems (core_of h s) (core_of h u)
    → get_or fs u e ≡ get_or fs s d
of_cores h fs s u d e k l m same =
    k.cores u e m ∙ sym (same_fingerprint (core_of h s) (core_of h u) (k.upwards s l) (k.upwards u m) same) ∙ sym (k.cores s d l)
