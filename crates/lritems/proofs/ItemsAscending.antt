-- items that come upwards, one behind another
use Rattle.std.proofs.Common.{◌≡◌, ℕ, zero, suc, ◌<◌, Bool, true, false, cond, ◌&&◌, List, [], ◌∷◌, ◌++◌, None, Some, length, get_or, refl, sym, ap, ◌∙◌, arith, inl, inr}
use Rattle.std.specs.Prelude.{◌==◌}
use Rattle.std.proofs.lemmas.Bool.Decides.{nat_tests}
use Rattle.std.proofs.lemmas.List.Quantifiers.{all_pairs_push}
use Rattle.lrspec.specs.grammars.ItemSets.{Items, item_at, HasItem, Precedes, AreUpwards}
use Rattle.lrspec.specs.merging.WeakCompatibility.{Apart}
use Rattle.lritems.specs.ItemsOf.{Agree}
use Rattle.lrclosing.proofs.ItemKeys.{apart_test}
use Rattle.lrclosing.proofs.AscendingItems.{test_itself}
pub use Rattle.lrclosing.proofs.AscendingItems.{AllBehind, AreAscending, ascending_from_upwards, apart_before, first_here}
use Rattle.lrclosing.proofs.WalksOverItems.{first_or_rest}

-- each item of the list comes before `k`
abbrev pub AllBefore : Items → ℕ × ℕ → Type 0
AllBefore [] k = Unit {0}
AllBefore (e ∷ es) k = Precedes e.0 k × AllBefore es k

at_before : (a : Items) (k : ℕ × ℕ) → AllBefore a k → (i : ℕ) (d : (ℕ × ℕ) × List Bool) → i < length a → Precedes (get_or a i d).0 k
at_before [] k b i d l = absurd (omega arith)
at_before (e ∷ es) k b zero d l = b.0
at_before (e ∷ es) k b (suc i) d l = at_before es k b.1 i d (omega arith)

-- an item behind all others, put at the end
pub upwards_pushed : (a : Items) (k : ℕ × ℕ) (v : List Bool) → AreUpwards a → AllBefore a k → AreUpwards (a ++ (k, v) ∷ [])
upwards_pushed a k v u b = all_pairs_push (λ e f. Precedes e.0 f.0) a (k, v) u (at_before a k b)

pub before_pushed : (a : Items) (k j : ℕ × ℕ) (v : List Bool) → AllBefore a k → Precedes j k → AllBefore (a ++ (j, v) ∷ []) k
before_pushed [] k j v b h = (h, tt)
before_pushed (e ∷ es) k j v b h = (b.0, before_pushed es k j v b.1 h)

pub not_both : (j k : ℕ × ℕ) → Precedes j k → Precedes k j → ⊥
not_both j k (inl h) (inl i) = omega (arith, h, i)
not_both j k (inl h) (inr i) = omega (arith, h, i)
not_both j k (inr h) (inl i) = omega (arith, h, i)
not_both j k (inr h) (inr i) = omega (arith, h, i)

apart_behind : (j k : ℕ × ℕ) → Precedes j k → Apart j.0 j.1 k.0 k.1
apart_behind j k (inl h) s t = omega (arith, h, s)
apart_behind j k (inr h) s t = omega (arith, h, t)

-- it is looked up, and so is each other one
pub pushed_here : (a : Items) (p d : ℕ) (v : List Bool) → AllBefore a (p, d) → item_at (a ++ ((p, d), v) ∷ []) p d ≡ Some v
pushed_here [] p d v b = rw (test_itself p d) refl
pushed_here (e ∷ es) p d v b = rw (apart_test p d e.0.0 e.0.1 (apart_before e.0 (p, d) b.0)) (pushed_here es p d v b.1)

pub pushed_others : (a : Items) (p d : ℕ) (v : List Bool) (i j : ℕ) → Apart p d i j → item_at (a ++ ((p, d), v) ∷ []) i j ≡ item_at a i j
pushed_others [] p d v i j f = rw (apart_test i j p d (λ s t. f (sym s) (sym t))) refl
pushed_others (e ∷ es) p d v i j f = ap (λ o. cond ((i == e.0.0) && (j == e.0.1)) (Some e.1) o) (pushed_others es p d v i j f)

-- what comes behind an item is not it
absent_behind : (a : Items) (k : ℕ × ℕ) → AllBehind k a → item_at a k.0 k.1 ≡ None
absent_behind [] k h = refl
absent_behind (e ∷ es) k h = rw (apart_test k.0 k.1 e.0.0 e.0.1 (apart_behind k e.0 h.0)) (absent_behind es k h.1)

pub behind_from_has : (a : Items) (k : ℕ × ℕ) (p d : ℕ) → AllBehind k a → HasItem a p d → Precedes k (p, d)
behind_from_has [] k p d h i = cc
behind_from_has (e ∷ es) k p d h i = elim (first_or_rest e.0.0 e.0.1 e.1 es p d i) [
  | inl s ↦ rw (s.0, s.1) h.0
  | inr j ↦ behind_from_has es k p d h.1 j
]

-- the first items of two are the same where each has that of the other
pub first_of_both :
    (e f : (ℕ × ℕ) × List Bool) (es fs : Items) → AllBehind e.0 es → AllBehind f.0 fs → HasItem (f ∷ fs) e.0.0 e.0.1 → HasItem (e ∷ es) f.0.0 f.0.1
    → (f.0.0 ≡ e.0.0) × (f.0.1 ≡ e.0.1)
first_of_both e f es fs h k mine theirs = elim (first_or_rest f.0.0 f.0.1 f.1 fs e.0.0 e.0.1 mine) [
  | inl s ↦ (sym s.0, sym s.1)
  | inr i ↦ elim (first_or_rest e.0.0 e.0.1 e.1 es f.0.0 f.0.1 theirs) [
    | inl s ↦ s
    | inr j ↦ absurd (not_both f.0 e.0 (behind_from_has fs f.0 e.0.0 e.0.1 k i) (behind_from_has es e.0 f.0.0 f.0.1 h j))
  ]
]

-- so they are in two that agree
same_first :
    (e f : (ℕ × ℕ) × List Bool) (es fs : Items) → AllBehind e.0 es → AllBehind f.0 fs → Agree (e ∷ es) (f ∷ fs) → (f.0.0 ≡ e.0.0) × (f.0.1 ≡ e.0.1)
same_first e f es fs h k a =
    let mine : HasItem (f ∷ fs) e.0.0 e.0.1 = rw (← a e.0.0 e.0.1, first_here e es) refl in
    let theirs : HasItem (e ∷ es) f.0.0 f.0.1 = rw (a f.0.0 f.0.1, first_here f fs) refl in
    first_of_both e f es fs h k mine theirs

-- items that come upwards are the same where they agree
pub same_from_agree : (a b : Items) → AreAscending a → AreAscending b → Agree a b → a ≡ b
same_from_agree [] [] h k g = refl
same_from_agree [] (f ∷ fs) h k g = let n : None ≡ Some f.1 = g f.0.0 f.0.1 ∙ first_here f fs in cc
same_from_agree (e ∷ es) [] h k g = let n : Some e.1 ≡ None = sym (first_here e es) ∙ g e.0.0 e.0.1 in cc
same_from_agree (e ∷ es) (f ∷ fs) h k g =
    let s = same_first e f es fs h.0 k.0 g in
    let pair : ℕ → ℕ → ℕ × ℕ = λ p d. (p, d) in
    let key : f.0 ≡ e.0 = ap (λ p. pair p f.0.1) s.0 ∙ ap (λ d. pair e.0.0 d) s.1 in
    let there : item_at (f ∷ fs) e.0.0 e.0.1 ≡ Some f.1 = rw (← s.0, ← s.1) (first_here f fs) in
    let both : Some e.1 ≡ Some f.1 = sym (first_here e es) ∙ g e.0.0 e.0.1 ∙ there in
    let bits : f.1 ≡ e.1 = cc in
    let item : (ℕ × ℕ) → List Bool → (ℕ × ℕ) × List Bool = λ p v. (p, v) in
    let same : f ≡ e = ap (λ p. item p f.1) key ∙ ap (λ v. item e.0 v) bits in
    let none : item_at fs e.0.0 e.0.1 ≡ None = rw (← s.0, ← s.1) (absent_behind fs f.0 k.0) in
    rw same (ap (λ c. e ∷ c) (same_from_agree es fs h.1 k.1 (λ p d. tails p d none (rw same at (g p d)))))
  where
    tails : (p d : ℕ) → item_at fs e.0.0 e.0.1 ≡ None → item_at (e ∷ es) p d ≡ item_at (e ∷ fs) p d → item_at es p d ≡ item_at fs p d
    tails p d none i = go ((p == e.0.0) && (d == e.0.1)) refl i
      where
        go :
            (b : Bool) → ((p == e.0.0) && (d == e.0.1)) ≡ b → cond b (Some e.1) (item_at es p d) ≡ cond b (Some e.1) (item_at fs p d)
            → item_at es p d ≡ item_at fs p d
        go false t j = j
        go true t j =
            let q : e.0.0 ≡ p = grind (arith, nat_tests) in
            let r : e.0.1 ≡ d = grind (arith, nat_tests) in
            rw (← q, ← r) (absent_behind es e.0 h.0 ∙ sym none)
