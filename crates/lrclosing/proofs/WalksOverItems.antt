-- walks over the items of a map
use Rattle.std.proofs.Common.{◌≡◌, ℕ, suc, ◌<◌, Bool, List, [], ◌∷◌, length, Some, sym, ◌∙◌, arith, ◌⊎◌, inl, inr, ⊎_elim, get_or}
use Rattle.std.specs.declared.cmp.Ordering.{Ordering}
use Rattle.std.specs.Ordering.{nat_cmp}
use Rattle.std.specs.Map.{lookup}
use Rattle.std.specs.BTreeMap.{is_at}
use Rattle.lrspec.specs.grammars.Grammar.{Grammar}
use Rattle.lrspec.specs.grammars.ItemSets.{Items, item_at, HasItem, FitsAt, Fits}
use Rattle.lrclosing.specs.ItemsOf.{items_of}
use Rattle.lrclosing.proofs.ItemKeys.{Key, key_cmp, item_here, same_or_apart, apart_test}

-- the look-up finds each entry of the list
abbrev pub FoundAll : {T X : Type 0} → (T → ℕ) → List (Key T × X) → List (Key T × X) → Type 0
FoundAll number es [] = Unit {0}
FoundAll number es (e ∷ rest) = (item_at (items_of number es) (number e.0.0.0) (number e.0.1.0) ≡ Some e.1) × FoundAll number es rest

pub found_all :
    {T X : Type 0} (number : T → ℕ) (cmp : T → T → Ordering) (ordered : (x y : T) → cmp x y ≡ nat_cmp (number x) (number y)) (es rest : List (Key T × X))
    → ((k : ℕ) (d : Key T × X) → k < length rest → lookup (is_at (key_cmp cmp (get_or rest k d).0)) es ≡ Some (get_or rest k d).1) → FoundAll number es rest
found_all number cmp ordered es [] h = tt
found_all number cmp ordered es (e ∷ rest) h =
    (sym (item_here number cmp ordered es e.0) ∙ h 0 e (omega arith), found_all number cmp ordered es rest (λ k d lt. h (suc k) d (omega arith)))

-- an item of a list is the first, or among the rest
pub first_or_rest : (p d : ℕ) (ctx : List Bool) (rest : Items) (i e : ℕ) → HasItem (((p, d), ctx) ∷ rest) i e → ((i ≡ p) × (e ≡ d)) ⊎ HasItem rest i e
first_or_rest p d ctx rest i e h = elim (same_or_apart i e p d) [
  | inl s ↦ inl (sym s.0, sym s.1)
  | inr f ↦ inr (rw (apart_test i e p d f) at h)
]

-- one item more fits
pub checked_turn :
    (g : Grammar) (a : Items) (p d : ℕ) (ctx : List Bool) (rest : Items)
    → ((i e : ℕ) (v : List Bool) → item_at a i e ≡ Some v → FitsAt g i e v ⊎ HasItem (((p, d), ctx) ∷ rest) i e) → item_at a p d ≡ Some ctx
    → FitsAt g p d ctx → (i e : ℕ) (v : List Bool) → item_at a i e ≡ Some v → FitsAt g i e v ⊎ HasItem rest i e
checked_turn g a p d ctx rest checked here fits i e v h =
    ⊎_elim
    (λ (x : FitsAt g i e v). inl x)
    (λ (x : HasItem (((p, d), ctx) ∷ rest) i e).
    ⊎_elim
    (λ (s : (i ≡ p) × (e ≡ d)).
    let both : Some v ≡ Some ctx = sym h ∙ (rw (s.0, s.1) here) in
    let same : v ≡ ctx = cc in
    inl (rw (s.0, s.1, same) fits))
    (λ (y : HasItem rest i e). inr y)
    (first_or_rest p d ctx rest i e x))
    (checked i e v h)

-- all fit where none is left
pub checked_end :
    (g : Grammar) (a rest : Items) → ((i e : ℕ) (v : List Bool) → item_at a i e ≡ Some v → FitsAt g i e v ⊎ HasItem rest i e) → rest ≡ [] → Fits g a
checked_end g a rest checked e i d v h =
    ⊎_elim (λ (x : FitsAt g i d v). x) (λ (x : HasItem rest i d). let k : HasItem [] i d = rw e at x in cc) (checked i d v h)
