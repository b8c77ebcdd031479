-- what placing a goto leaves: cores keep their items and only grow, edges but the placed one stay, and all cross still
use Rattle.std.proofs.Common.{◌≡◌, ◌≢◌, ℕ, ◌<◌, ◌≤◌, Bool, true, false, ◌&&◌, List, Option, Some, length, refl, sym, ◌∙◌, ◌⊎◌, inl, inr, arith}
use Rattle.std.specs.Prelude.{◌==◌, if◌then◌else◌}
use Rattle.std.proofs.lemmas.Bool.{cases_eq, eqb-true, eq-eqb}
use Rattle.lrspec.specs.grammars.Grammar.{Symbol}
use Rattle.lrspec.specs.grammars.ItemSets.{Items, LooksIn, IsContained}
use Rattle.lrspec.specs.merging.Graph.{same_symbol}
use Rattle.lrspec.specs.merging.WeakCompatibility.{SameItems, Cross}
use Rattle.lrplacing.specs.Construction.{Draft, core_at, closed_at, edge_from, Makes, PlacesOne}
use Rattle.lrplacing.specs.Invariant.{AllCross}
use Rattle.lrplacing.proofs.DraftFacts.{closed_below, same_symbol_itself, symbol_equal}
use Rattle.lrplacing.proofs.GrowingItemSets.{same_itself, same_back, same_then, contained_equal, union_contains, union_contains_second, cross_grown}

edge_test :
    (a b : Bool) (k u : ℕ) (o : Option ℕ) → (if (a && b) then Some k else o) ≡ Some u
    → ((a ≡ true) × (b ≡ true) × (u ≡ k)) ⊎ (o ≡ Some u)
edge_test true true k u o e = inl (refl, refl, cc)
edge_test true false k u o e = inr e
edge_test false b k u o e = inr e

module _ {old new : List Draft} {from : ℕ} {x : Symbol} {goto : Items} {k : ℕ} (m : PlacesOne old from x goto k new) where
  -- a core only grows
  pub core_grown : (j : ℕ) → j < length old → IsContained (core_at old j) (core_at new j)
  core_grown j lt =
      elim (cases_eq j k) [
        | inl e ↦ elim m.how [
          | inl h ↦ rw e (union_contains (core_at old k) goto (core_at new k) h.union)
          | inr h ↦ absurd (omega (arith, h.last, e, lt))
        ]
        | inr n ↦ contained_equal (core_at old j) (core_at new j) (m.others j n).core
      ]

  -- and keeps its items
  pub core_items_kept : (j : ℕ) → j < length old → SameItems (core_at old j) (core_at new j)
  core_items_kept j lt =
      elim (cases_eq j k) [
        | inl e ↦ elim m.how [
          | inl h ↦ rw e (same_back (core_at new k) (core_at old k) h.union.items)
          | inr h ↦ absurd (omega (arith, h.last, e, lt))
        ]
        | inr n ↦ rw (m.others j n).core (same_itself (core_at old j))
      ]

  -- the state that took the goto in has its items
  pub goto_items_kept : SameItems goto (core_at new k)
  goto_items_kept =
      elim m.how [
        | inl h ↦ same_back (core_at new k) goto (same_then (core_at new k) (core_at old k) goto h.union.items h.items)
        | inr h ↦ rw h.core (same_itself goto)
      ]

  -- and contains it
  pub goto_contained : IsContained goto (core_at new k)
  goto_contained =
      elim m.how [
        | inl h ↦ union_contains_second (core_at old k) goto (core_at new k) h.items h.union
        | inr h ↦ contained_equal goto (core_at new k) h.core
      ]

  -- there are no fewer states
  pub length_grown : length old ≤ length new
  length_grown = elim m.how [ inl h ↦ omega (arith, h.length_is) | inr h ↦ omega (arith, h.length_is) ]

  -- each was there before or was made
  pub old_or_made : (j : ℕ) → j < length new → j < length old ⊎ (j ≡ k) × Makes old new k goto
  old_or_made j below =
      elim m.how [
        | inl h ↦ inl (omega (arith, h.length_is))
        | inr h ↦ elim (cases_eq j k) [
          | inl e ↦ inr (e, h)
          | inr n ↦ inl (omega (arith, h.length_is, h.last))
        ]
      ]

  -- a state other than the one that was made was there before
  pub other_below : (j : ℕ) → j ≢ k → j < length new → j < length old
  other_below j n below = elim (old_or_made j below) [ inl lt ↦ lt | inr (e, h) ↦ absurd (n e) ]

  -- an edge is the one that was placed, or was there before
  pub edge_origin : (j : ℕ) (y : Symbol) (u : ℕ) → edge_from new j y ≡ Some u → ((j ≡ from) × (y ≡ x) × (u ≡ k)) ⊎ (edge_from old j y ≡ Some u)
  edge_origin j y u e =
      elim (edge_test (j == from) (same_symbol y x) k u (edge_from old j y) (sym (m.edges j y) ∙ e)) [
        | inl (a, b, c) ↦ inl (eqb-true j from a, symbol_equal y x b, c)
        | inr o ↦ inr o
      ]

  -- the placed edge
  pub edge_placed : edge_from new from x ≡ Some k
  edge_placed = m.edges from x ∙ rw (eq-eqb from from refl, same_symbol_itself x) refl

  cross_made : Makes old new k goto → (j : ℕ) → j < k → SameItems (core_at new j) (core_at new k) → Cross (core_at new j) (core_at new k)
  cross_made h j lt same =
      let before : j < length old = omega (arith, h.last) in
      let items = same_then (core_at old j) (core_at new j) goto (core_items_kept j before) (rw h.core at same) in
      let clash = h.clashes j before items in
      cross_grown (core_at old j) goto (core_at new j) (core_at new k) (core_grown j before) goto_contained clash.cross

  cross_kept : AllCross old → (j l : ℕ) → j < l → l < length old → SameItems (core_at new j) (core_at new l) → Cross (core_at new j) (core_at new l)
  cross_kept all j l lt below same =
      let before : j < length old = omega arith in
      let items = same_then (core_at old j) (core_at new j) (core_at new l) (core_items_kept j before) same in
      let both = same_then (core_at old j) (core_at new l) (core_at old l) items (same_back (core_at old l) (core_at new l) (core_items_kept l below)) in
      cross_grown (core_at old j) (core_at old l) (core_at new j) (core_at new l) (core_grown j before) (core_grown l below) (all j l lt below both)

  -- a state that is closed was closed before
  pub closed_before : (j : ℕ) → closed_at new j ≡ true → closed_at old j ≡ true
  closed_before j e =
      elim (cases_eq j k) [
        | inl i ↦ elim m.how [
          | inl h ↦ elim h.closed [
            | inl (looks, same) ↦ rw i (sym same ∙ rw i at e)
            | inr (unclosed, gains) ↦ absurd (cc)
          ]
          | inr h ↦ let unclosed : closed_at new k ≡ false = h.closed in absurd (cc)
        ]
        | inr n ↦ sym (m.others j n).closed ∙ e
      ]

  -- and its core looks at no more than before
  closed_looks : (j : ℕ) → closed_at new j ≡ true → (p d t : ℕ) → LooksIn (core_at new j) p d t → LooksIn (core_at old j) p d t
  closed_looks j e p d t =
      elim (cases_eq j k) [
        | inl i ↦ elim m.how [
          | inl h ↦ elim h.closed [
            | inl (looks, same) ↦ rw i (looks p d t)
            | inr (unclosed, gains) ↦ absurd (cc)
          ]
          | inr h ↦ let unclosed : closed_at new k ≡ false = h.closed in absurd (cc)
        ]
        | inr n ↦ rw (m.others j n).core (λ l. l)
      ]

  -- so its core grew by nothing
  pub closed_grew_not : (j : ℕ) → closed_at new j ≡ true → IsContained (core_at new j) (core_at old j)
  closed_grew_not j e = record {
    items = λ p d. (core_items_kept j (closed_below old j (closed_before j e)) p d).1;
    looks = closed_looks j e;
  }

  -- states with the same items cross still
  pub all_cross_kept : AllCross old → AllCross new
  all_cross_kept all j l lt below same =
      elim (old_or_made l below) [
        | inl before ↦ cross_kept all j l lt before same
        | inr (e, h) ↦ rw e (cross_made h j (rw e at lt) (rw e at same))
      ]
