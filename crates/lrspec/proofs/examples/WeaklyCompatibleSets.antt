-- two item sets that may not be merged, and two that cross and may
use Rattle.std.proofs.Common.{◌≡◌, ℕ, Bool, List, [], ◌∷◌, map, refl, ap, ◌⊎◌, inl, inr, arith}
use Rattle.std.specs.Prelude.{◌==◌}
use Rattle.std.specs.List.{list_any, range_with_len}
use Rattle.lrspec.specs.grammars.ItemSets.{Items, HasItem}
use Rattle.lrspec.specs.merging.WeakCompatibility.{Apart, Passes, IsWeaklyCompatible, Cross}
use Rattle.lrspec.proofs.examples.ItemSetEntries.{item_listed, none_shared}

-- `n` bits, set at these tokens
abbrev pub bits_at : ℕ → List ℕ → List Bool
bits_at n ts = map (λ t. list_any (λ u. u == t) ts) (range_with_len 0 n)

-- the grammar that is LR(1) and not LALR(1): after `a c` the complete A looks at `d`, and the complete B at `e`
abbrev pub d_and_e : Items
d_and_e = ((4, 1), bits_at 6 (1 ∷ [])) ∷ ((5, 1), bits_at 6 (3 ∷ [])) ∷ []

-- after `b c` it is the other way round
abbrev pub e_and_d : Items
e_and_d = ((4, 1), bits_at 6 (3 ∷ [])) ∷ ((5, 1), bits_at 6 (1 ∷ [])) ∷ []

-- they cross
pub first_cross : Cross d_and_e e_and_d
first_cross = record { p = 4; d = 1; q = 5; e = 1; apart = λ e f. omega arith; meet = (1, refl, refl) }

-- and share no token within, so they may not be merged
pub not_compatible : IsWeaklyCompatible d_and_e e_and_d → ⊥
not_compatible h = elim (h.pairs 4 1 5 1 (λ e f. omega arith) refl refl) [
  | inl n ↦ n.0 (1, refl, refl)
  | inr (inl (t, l, k)) ↦ none_shared (bits_at 6 (1 ∷ [])) (bits_at 6 (3 ∷ [])) t refl l k
  | inr (inr (t, l, k)) ↦ none_shared (bits_at 6 (3 ∷ [])) (bits_at 6 (1 ∷ [])) t refl l k
]

-- the grammar that is contested on `x` alone: after `a c` the complete A looks at `d` and `x`, and the complete B at `x` and `e`
abbrev pub dx_and_xe : Items
dx_and_xe = ((6, 1), bits_at 7 (1 ∷ 2 ∷ [])) ∷ ((7, 1), bits_at 7 (2 ∷ 3 ∷ [])) ∷ []

-- after `b c` A looks at `e`, and B at `d`
abbrev pub only_e_and_d : Items
only_e_and_d = ((6, 1), bits_at 7 (3 ∷ [])) ∷ ((7, 1), bits_at 7 (1 ∷ [])) ∷ []

-- they cross too
pub second_cross : Cross dx_and_xe only_e_and_d
second_cross = record { p = 6; d = 1; q = 7; e = 1; apart = λ e f. omega arith; meet = (1, refl, refl) }

abbrev IsAOrB : ℕ → ℕ → Type 0
IsAOrB p d = ((p ≡ 6) × (d ≡ 1)) ⊎ ((p ≡ 7) × (d ≡ 1))

a_or_b : (u v : List Bool) (p d : ℕ) → HasItem (((6, 1), u) ∷ ((7, 1), v) ∷ []) p d → IsAOrB p d
a_or_b u v p d h = elim (item_listed (((6, 1), u) ∷ ((7, 1), v) ∷ []) p d h).1 [
  | inl e ↦ inl (ap (λ i. i.0.0) e, ap (λ i. i.0.1) e)
  | inr (inl e) ↦ inr (ap (λ i. i.0.0) e, ap (λ i. i.0.1) e)
  | inr (inr e) ↦ absurd e
]

has_a_and_b : (u v : List Bool) (p d : ℕ) → IsAOrB p d → HasItem (((6, 1), u) ∷ ((7, 1), v) ∷ []) p d
has_a_and_b u v p d (inl (i, j)) = rw (i, j) refl
has_a_and_b u v p d (inr (i, j)) = rw (i, j) refl

-- but A and B share `x` within the first, so these may be merged
pub compatible : IsWeaklyCompatible dx_and_xe only_e_and_d
compatible = record {
  items = λ p d. (
    λ h. has_a_and_b (bits_at 7 (3 ∷ [])) (bits_at 7 (1 ∷ [])) p d (a_or_b (bits_at 7 (1 ∷ 2 ∷ [])) (bits_at 7 (2 ∷ 3 ∷ [])) p d h),
    λ h. has_a_and_b (bits_at 7 (1 ∷ 2 ∷ [])) (bits_at 7 (2 ∷ 3 ∷ [])) p d (a_or_b (bits_at 7 (3 ∷ [])) (bits_at 7 (1 ∷ [])) p d h),
  );
  pairs = λ p d q e x h k.
      pass p d q e x (a_or_b (bits_at 7 (1 ∷ 2 ∷ [])) (bits_at 7 (2 ∷ 3 ∷ [])) p d h) (a_or_b (bits_at 7 (1 ∷ 2 ∷ [])) (bits_at 7 (2 ∷ 3 ∷ [])) q e k);
}
  where
    pass : (p d q e : ℕ) → Apart p d q e → IsAOrB p d → IsAOrB q e → Passes dx_and_xe only_e_and_d p d q e
    pass p d q e x (inl (i, j)) (inl (k, l)) = absurd (x (cc) (cc))
    pass p d q e x (inl (i, j)) (inr (k, l)) = rw (i, j, k, l) (inr (inl (2, refl, refl)))
    pass p d q e x (inr (i, j)) (inl (k, l)) = rw (i, j, k, l) (inr (inl (2, refl, refl)))
    pass p d q e x (inr (i, j)) (inr (k, l)) = absurd (x (cc) (cc))
