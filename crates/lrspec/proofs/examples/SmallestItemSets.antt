-- the item sets of the smallest grammar, and their closures
use Rattle.std.proofs.Common.{◌≡◌, ℕ, zero, suc, true, false, List, [], ◌∷◌, refl, sym, ap, subst, inl, inr, ◌↔◌, arith}
use Rattle.std.specs.Prelude.{slice_index_or}
use Rattle.std.proofs.lemmas.Bool.{eq-eqb}
use Rattle.lrspec.specs.grammars.Grammar.{Symbol, Rule, IsGrammar, rest, IsProductionOf}
use Rattle.lrspec.specs.grammars.First as first
use Rattle.lrspec.specs.grammars.First.{AllNullable, Begins}
use Rattle.lrspec.specs.grammars.ItemSets as set
use Rattle.lrspec.specs.grammars.ItemSets.{Items, HasItem, LooksIn, FitsAt, Fits, IsContained, IsClosed, ClosedItem, ClosedLook, IsClosure, IsBefore, Moved, IsGoto}
use Rattle.lrspec.specs.grammars.StartState.{IsStartCore}
use Rattle.lrspec.specs.examples.ExampleGrammars.{smallest}
use Rattle.lrspec.proofs.examples.GrammarsByComputing.{grammar_from_test}
use Rattle.lrspec.proofs.examples.ItemSetEntries.{item_listed, look_listed}
use Rattle.lrspec.proofs.grammars.Closures.{closure_made, closed_closure}

-- the smallest grammar: `S: ;`
pub smallest_grammar : IsGrammar smallest
smallest_grammar = grammar_from_test smallest 1 refl refl refl refl refl refl

-- an item set of one item, which looks at the end token
abbrev pub one : ℕ → ℕ → Items
one q e = ((q, e), true ∷ []) ∷ []

-- the start item, closed: `S: .` comes with it
abbrev pub start_closed : Items
start_closed = ((1, 0), true ∷ []) ∷ ((0, 0), true ∷ []) ∷ []

-- ---- what the item sets hold

end_bit : (t : ℕ) → slice_index_or (true ∷ []) t false ≡ true → t ≡ 0
end_bit zero h = refl
end_bit (suc t) h = cc

-- it has that item alone
pub one_items : (q e p d : ℕ) → HasItem (one q e) p d ↔ ((p ≡ q) × (d ≡ e))
one_items q e p d = (
  λ h. elim (item_listed (one q e) p d h).1 [ inl i ↦ (ap (λ k. k.0.0) i, ap (λ k. k.0.1) i) | inr i ↦ absurd i ],
  λ i. rw (i.0, i.1, eq-eqb q q refl, eq-eqb e e refl) refl,
)

-- and looks at the end token alone
pub one_looks : (q e p d t : ℕ) → LooksIn (one q e) p d t ↔ ((p ≡ q) × (d ≡ e) × (t ≡ 0))
one_looks q e p d t = (
  λ h.
      let (v, i, k) = look_listed (one q e) p d t h in
      elim i [ inl j ↦ (ap (λ k. k.0.0) j, ap (λ k. k.0.1) j, end_bit t (rw (ap (λ k. k.1) j) at k)) | inr j ↦ absurd j ],
  λ i. rw (i.0, i.1, i.2, eq-eqb q q refl, eq-eqb e e refl) refl,
)

-- the start core
pub one_start : IsStartCore smallest (one 1 0)
one_start = record { item = one_items 1 0; look = one_looks 1 0 }

-- the start item, and `S: .`
pub data IsAtStart : ℕ → ℕ → Type 0 where
  start : IsAtStart 1 0
  empty : IsAtStart 0 0

-- the closed start state has no other items
pub at_start : (p d : ℕ) → HasItem start_closed p d → IsAtStart p d
at_start p d h = elim (item_listed start_closed p d h).1 [
  | inl i ↦ subst (λ k. IsAtStart k.0.0 k.0.1) (sym i) IsAtStart.start
  | inr (inl i) ↦ subst (λ k. IsAtStart k.0.0 k.0.1) (sym i) IsAtStart.empty
  | inr (inr i) ↦ absurd i
]

-- and they look at the end token alone
pub look_at_start : (p d t : ℕ) → LooksIn start_closed p d t → IsAtStart p d × (t ≡ 0)
look_at_start p d t h =
    let (v, i, k) = look_listed start_closed p d t h in
    elim i [
      | inl j ↦ (subst (λ k. IsAtStart k.0.0 k.0.1) (sym j) IsAtStart.start, end_bit t (rw (ap (λ k. k.1) j) at k))
      | inr (inl j) ↦ (subst (λ k. IsAtStart k.0.0 k.0.1) (sym j) IsAtStart.empty, end_bit t (rw (ap (λ k. k.1) j) at k))
      | inr (inr j) ↦ absurd j
    ]

-- ---- the closed states are the closures of their cores

-- only S stands behind a dot there, and nothing behind it
pub behind_start : {p d : ℕ} (x : Symbol) (y : List Symbol) → IsAtStart p d → rest smallest p d ≡ x ∷ y → (p ≡ 1) × (x ≡ Rule 1) × (y ≡ [])
behind_start x y IsAtStart.start e = (refl, cc, cc)
behind_start x y IsAtStart.empty e = absurd (cc)

empty_production : (q r : ℕ) → IsProductionOf smallest q r → r ≡ 1 → q ≡ 0
empty_production zero r i e = refl
empty_production (suc zero) r i e = absurd (omega arith)
empty_production (suc (suc q)) r i e = absurd i

-- what stands behind S puts in `S: .` alone
put_in : {p d : ℕ} (r q : ℕ) (y : List Symbol) → IsAtStart p d → rest smallest p d ≡ Rule r ∷ y → IsProductionOf smallest q r → (q ≡ 0) × (y ≡ [])
put_in r q y s e i = let (k, x, z) = behind_start (Rule r) y s e in let rule : r ≡ 1 = cc in (empty_production q r i rule, z)

nothing_begins : {y : List Symbol} {t : ℕ} → Begins smallest y t → y ≡ [] → ⊥
nothing_begins first.Begins.here e = cc
nothing_begins (first.Begins.inside p i b) e = cc
nothing_begins (first.Begins.past n b) e = cc

start_is_closed : IsClosed smallest start_closed
start_is_closed = record {
  items = λ p d r q y h e i. rw (put_in r q y (at_start p d h) e i).0 refl;
  begins = λ p d r q t y h e i b. absurd (nothing_begins b (put_in r q y (at_start p d h) e i).1);
  inherit = λ p d r q t y h e i n. let (s, z) = look_at_start p d t h in rw ((put_in r q y s e i).0, z) refl;
}

start_contained : IsContained (one 1 0) start_closed
start_contained = record {
  items = λ p d h. let (i, j) = (one_items 1 0 p d).0 h in rw (i, j) refl;
  looks = λ p d t h. let (i, j, k) = (one_looks 1 0 p d t).0 h in rw (i, j, k) refl;
}

closed_item : {p d : ℕ} → IsAtStart p d → ClosedItem smallest (HasItem (one 1 0)) p d
closed_item IsAtStart.start = set.ClosedItem.core refl
closed_item IsAtStart.empty = set.ClosedItem.expand {p = 1} {d = 0} (set.ClosedItem.core refl) refl refl

closed_look : {p d : ℕ} → IsAtStart p d → ClosedLook smallest (HasItem (one 1 0)) (LooksIn (one 1 0)) p d 0
closed_look IsAtStart.start = set.ClosedLook.core refl
closed_look IsAtStart.empty = set.ClosedLook.inherit {p = 1} {d = 0} (set.ClosedLook.core refl) refl refl first.AllNullable.none

-- the closed start state is the closure of the start item
pub start_closes : IsClosure smallest (one 1 0) start_closed
start_closes =
    closure_made start_contained start_is_closed (λ p d h. closed_item (at_start p d h))
    (λ p d t h. let (s, z) = look_at_start p d t h in rw z (closed_look s))

-- nothing stands behind the dot of the complete start production
pub nothing_behind : {p d : ℕ} {x : Symbol} {y : List Symbol} → (p ≡ 1) × (d ≡ 1) → rest smallest p d ≡ x ∷ y → ⊥
nothing_behind (i, j) e = let k = rw (i, j) at e in cc

-- so it is its own closure
pub end_closes : IsClosure smallest (one 1 1) (one 1 1)
end_closes = closed_closure (one 1 1) (record {
  items = λ p d r q y h e i. absurd (nothing_behind ((one_items 1 1 p d).0 h) e);
  begins = λ p d r q t y h e i b. absurd (nothing_behind ((one_items 1 1 p d).0 h) e);
  inherit = λ p d r q t y h e i n. let (j, k, z) = (one_looks 1 1 p d t).0 h in absurd (nothing_behind (j, k) e);
})
