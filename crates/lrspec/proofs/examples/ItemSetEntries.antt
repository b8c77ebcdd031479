-- what an item set has stands in its list
use Rattle.std.proofs.Common.{◌≡◌, ℕ, zero, suc, Bool, true, false, cond, ◌&&◌, ◌||◌, List, [], ◌∷◌, Option, None, Some, refl, ◌⊎◌, inl, inr}
use Rattle.std.specs.Prelude.{◌==◌, slice_index_or}
use Rattle.std.proofs.lemmas.Bool.{and_parts, eqb-true}
use Rattle.lrspec.specs.grammars.ItemSets.{Items, item_at, HasItem, LooksIn}
use Rattle.lrspec.proofs.grammars.ListMembers.{Among}

-- the first item, or one found behind it
found_at :
    (e : (ℕ × ℕ) × List Bool) (es : Items) (p d : ℕ) (b : Bool) → ((p == e.0.0) && (d == e.0.1)) ≡ b
    → (v : List Bool) → cond b (Some e.1) (item_at es p d) ≡ Some v → (((p, d), v) ≡ e) ⊎ (item_at es p d ≡ Some v)
found_at e es p d false k v h = inr h
found_at ((q, c), u) es p d true k v h =
    let (i, j) = and_parts (p == q) (d == c) k in
    let one : p ≡ q = eqb-true p q i in
    let two : d ≡ c = eqb-true d c j in
    let bits : v ≡ u = cc in
    inl (rw (one, two, bits) refl)

-- what is found in an item set is listed there
pub item_found : (a : Items) (p d : ℕ) (v : List Bool) → item_at a p d ≡ Some v → Among ((p, d), v) a
item_found [] p d v h = cc
item_found (e ∷ es) p d v h =
    elim (found_at e es p d ((p == e.0.0) && (d == e.0.1)) refl v h) [ inl i ↦ inl i | inr i ↦ inr (item_found es p d v i) ]

-- so is each of its items
pub item_listed : (a : Items) (p d : ℕ) → HasItem a p d → (v : List Bool) × Among ((p, d), v) a
item_listed a p d h = by_value (item_at a p d) refl h
  where
    by_value : (o : Option (List Bool)) → item_at a p d ≡ o → HasItem a p d → (v : List Bool) × Among ((p, d), v) a
    by_value None e h = absurd (let k = rw e at h in cc)
    by_value (Some v) e h = (v, item_found a p d v e)

-- and where it looks its bit is set
pub look_listed : (a : Items) (p d t : ℕ) → LooksIn a p d t → (v : List Bool) × Among ((p, d), v) a × (slice_index_or v t false ≡ true)
look_listed a p d t h = by_value (item_at a p d) refl h
  where
    by_value :
        (o : Option (List Bool)) → item_at a p d ≡ o → LooksIn a p d t
        → (v : List Bool) × Among ((p, d), v) a × (slice_index_or v t false ≡ true)
    by_value None e h = absurd (rw e at h)
    by_value (Some v) e h = (v, item_found a p d v e, rw e at h)

-- whether two lists have a bit that is set in both
abbrev pub share : List Bool → List Bool → Bool
share [] v = false
share (a ∷ u) [] = false
share (a ∷ u) (b ∷ v) = (a && b) || share u v

-- where they do not, no bit is set in both
pub none_shared :
    (u v : List Bool) (t : ℕ) → share u v ≡ false → slice_index_or u t false ≡ true → slice_index_or v t false ≡ true → ⊥
none_shared [] v t e l k = cc
none_shared (a ∷ u) [] t e l k = cc
none_shared (true ∷ u) (true ∷ v) zero e l k = cc
none_shared (true ∷ u) (false ∷ v) zero e l k = cc
none_shared (false ∷ u) (b ∷ v) zero e l k = cc
none_shared (true ∷ u) (true ∷ v) (suc t) e l k = cc
none_shared (true ∷ u) (false ∷ v) (suc t) e l k = none_shared u v t e l k
none_shared (false ∷ u) (b ∷ v) (suc t) e l k = none_shared u v t e l k
