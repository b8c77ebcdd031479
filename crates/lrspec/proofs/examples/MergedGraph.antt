-- a graph of the grammar that is LR(1) and not LALR(1), in which the states after `a c` and `b c` are merged, though these
-- are not weakly compatible
use Rattle.std.proofs.Common.{◌≡◌, ℕ, zero, suc, Bool, true, false, List, [], ◌∷◌, refl, ap, ◌⊎◌, inl, inr, ◌↔◌}
use Rattle.std.specs.Prelude.{slice_index_or}
use Rattle.lrspec.specs.grammars.Grammar.{Symbol, Rule, Token}
use Rattle.lrspec.specs.grammars.ItemSets.{Items, HasItem, LooksIn}
use Rattle.lrspec.specs.grammars.StartState.{IsStartCore}
use Rattle.lrspec.specs.merging.WeakCompatibility.{SameItems, IsUnion}
use Rattle.lrspec.specs.merging.Graph.{State, Graph, core_of}
use Rattle.lrspec.specs.examples.ExampleGrammars.{lr_not_lalr}
use Rattle.lrspec.proofs.examples.ItemSetEntries.{item_listed, look_listed}
use Rattle.lrspec.proofs.examples.ClosuresByComputing.{contained_from_test}
use Rattle.lrspec.proofs.examples.WeaklyCompatibleSets.{bits_at, d_and_e, e_and_d}
use Rattle.lrspec.proofs.examples.GraphsByComputing.{test_states}

-- an item that looks at the end token alone
abbrev at_end : ℕ → ℕ → (ℕ × ℕ) × List Bool
at_end p d = ((p, d), bits_at 6 (5 ∷ []))

-- a state with one such item, and no rule behind its dot
abbrev one_item : ℕ → ℕ → List (Symbol × ℕ) → State
one_item p d es = record { core = at_end p d ∷ []; closed = at_end p d ∷ []; edges = es }

-- after `a c` and after `b c`: both complete items look at `d` and at `e`
abbrev pub d_or_e : Items
d_or_e = ((4, 1), bits_at 6 (1 ∷ 3 ∷ [])) ∷ ((5, 1), bits_at 6 (1 ∷ 3 ∷ [])) ∷ []

abbrev start_state : State
start_state = record {
  core = at_end 6 0 ∷ [];
  closed = at_end 6 0 ∷ at_end 0 0 ∷ at_end 1 0 ∷ at_end 2 0 ∷ at_end 3 0 ∷ [];
  edges = (Rule 1, 1) ∷ (Token 0, 2) ∷ (Token 2, 3) ∷ [];
}

-- after `a` the item `A: . 'c'` looks at `d`, and `B: . 'c'` at `e`
abbrev after_a : State
after_a = record {
  core = at_end 0 1 ∷ at_end 2 1 ∷ [];
  closed = at_end 0 1 ∷ at_end 2 1 ∷ ((4, 0), bits_at 6 (1 ∷ [])) ∷ ((5, 0), bits_at 6 (3 ∷ [])) ∷ [];
  edges = (Rule 2, 4) ∷ (Rule 3, 5) ∷ (Token 4, 6) ∷ [];
}

-- after `b` it is the other way round
abbrev after_b : State
after_b = record {
  core = at_end 1 1 ∷ at_end 3 1 ∷ [];
  closed = at_end 1 1 ∷ at_end 3 1 ∷ ((4, 0), bits_at 6 (3 ∷ [])) ∷ ((5, 0), bits_at 6 (1 ∷ [])) ∷ [];
  edges = (Rule 3, 7) ∷ (Rule 2, 8) ∷ (Token 4, 6) ∷ [];
}

-- its states: at the start; after S, `a` and `b`; after `a A`, `a B` and the merged one; after `b B` and `b A`; and those
-- of the four complete productions of S
abbrev pub merged_graph : Graph
merged_graph =
    start_state
    ∷ one_item 6 1 []
    ∷ after_a
    ∷ after_b
    ∷ one_item 0 2 ((Token 1, 9) ∷ [])
    ∷ one_item 2 2 ((Token 3, 10) ∷ [])
    ∷ record { core = d_or_e; closed = d_or_e; edges = [] }
    ∷ one_item 1 2 ((Token 1, 11) ∷ [])
    ∷ one_item 3 2 ((Token 3, 12) ∷ [])
    ∷ one_item 0 3 []
    ∷ one_item 2 3 []
    ∷ one_item 1 3 []
    ∷ one_item 3 3 []
    ∷ []

pub merged_states : test_states lr_not_lalr merged_graph ≡ true
merged_states = refl

end_bit : (t : ℕ) → slice_index_or (bits_at 6 (5 ∷ [])) t false ≡ true → t ≡ 5
end_bit zero h = cc
end_bit (suc zero) h = cc
end_bit (suc (suc zero)) h = cc
end_bit (suc (suc (suc zero))) h = cc
end_bit (suc (suc (suc (suc zero)))) h = cc
end_bit (suc (suc (suc (suc (suc zero))))) h = refl
end_bit (suc (suc (suc (suc (suc (suc t)))))) h = cc

-- its start state has the start item, looking at the end token
pub merged_start : IsStartCore lr_not_lalr (core_of merged_graph 0)
merged_start = record {
  item = λ p d. (
    λ h. elim (item_listed (at_end 6 0 ∷ []) p d h).1 [ inl i ↦ (ap (λ k. k.0.0) i, ap (λ k. k.0.1) i) | inr i ↦ absurd i ],
    λ i. rw (i.0, i.1) refl,
  );
  look = λ p d t. (
    λ h.
        let (v, i, k) = look_listed (at_end 6 0 ∷ []) p d t h in
        elim i [ inl j ↦ (ap (λ k. k.0.0) j, ap (λ k. k.0.1) j, end_bit t (rw (ap (λ k. k.1) j) at k)) | inr j ↦ absurd j ],
    λ i. rw (i.0, i.1, i.2) refl,
  );
}

-- one of the two complete items
abbrev IsComplete : ℕ → ℕ → Type 0
IsComplete p d = ((p ≡ 4) × (d ≡ 1)) ⊎ ((p ≡ 5) × (d ≡ 1))

complete_items : (u v : List Bool) (p d : ℕ) → HasItem (((4, 1), u) ∷ ((5, 1), v) ∷ []) p d ↔ IsComplete p d
complete_items u v p d = (
  λ h. elim (item_listed (((4, 1), u) ∷ ((5, 1), v) ∷ []) p d h).1 [
    | inl e ↦ inl (ap (λ i. i.0.0) e, ap (λ i. i.0.1) e)
    | inr (inl e) ↦ inr (ap (λ i. i.0.0) e, ap (λ i. i.0.1) e)
    | inr (inr e) ↦ absurd e
  ],
  λ i. elim i [ inl (j, k) ↦ rw (j, k) refl | inr (j, k) ↦ rw (j, k) refl ],
)

complete_same : (u v x y : List Bool) → SameItems (((4, 1), u) ∷ ((5, 1), v) ∷ []) (((4, 1), x) ∷ ((5, 1), y) ∷ [])
complete_same u v x y p d = (
  λ h. (complete_items x y p d).1 ((complete_items u v p d).0 h),
  λ h. (complete_items u v p d).1 ((complete_items x y p d).0 h),
)

-- the two have the same items
pub same_after_c : SameItems d_and_e e_and_d
same_after_c = complete_same (bits_at 6 (1 ∷ [])) (bits_at 6 (3 ∷ [])) (bits_at 6 (3 ∷ [])) (bits_at 6 (1 ∷ []))

d_or_e_bit : (t : ℕ) → slice_index_or (bits_at 6 (1 ∷ 3 ∷ [])) t false ≡ true → (t ≡ 1) ⊎ (t ≡ 3)
d_or_e_bit zero h = absurd cc
d_or_e_bit (suc zero) h = inl refl
d_or_e_bit (suc (suc zero)) h = absurd cc
d_or_e_bit (suc (suc (suc zero))) h = inr refl
d_or_e_bit (suc (suc (suc (suc zero)))) h = absurd cc
d_or_e_bit (suc (suc (suc (suc (suc zero))))) h = absurd cc
d_or_e_bit (suc (suc (suc (suc (suc (suc t)))))) h = absurd cc

one_of_both : (p d t : ℕ) → IsComplete p d → (t ≡ 1) ⊎ (t ≡ 3) → LooksIn d_and_e p d t ⊎ LooksIn e_and_d p d t
one_of_both p d t (inl (i, j)) (inl k) = rw (i, j, k) (inl refl)
one_of_both p d t (inl (i, j)) (inr k) = rw (i, j, k) (inr refl)
one_of_both p d t (inr (i, j)) (inl k) = rw (i, j, k) (inr refl)
one_of_both p d t (inr (i, j)) (inr k) = rw (i, j, k) (inl refl)

-- and the merged core is their union
pub union_after_c : IsUnion d_and_e e_and_d d_or_e
union_after_c = record {
  items = complete_same (bits_at 6 (1 ∷ 3 ∷ [])) (bits_at 6 (1 ∷ 3 ∷ [])) (bits_at 6 (1 ∷ [])) (bits_at 6 (3 ∷ []));
  looks = λ p d t. (
    λ l.
        let (v, i, k) = look_listed d_or_e p d t l in
        elim i [
          | inl e ↦ one_of_both p d t (inl (ap (λ i. i.0.0) e, ap (λ i. i.0.1) e)) (d_or_e_bit t (rw (ap (λ i. i.1) e) at k))
          | inr (inl e) ↦ one_of_both p d t (inr (ap (λ i. i.0.0) e, ap (λ i. i.0.1) e)) (d_or_e_bit t (rw (ap (λ i. i.1) e) at k))
          | inr (inr e) ↦ absurd e
        ],
    λ l. elim l [
      | inl k ↦ (contained_from_test d_and_e d_or_e refl).looks p d t k
      | inr k ↦ (contained_from_test e_and_d d_or_e refl).looks p d t k
    ],
  );
}
