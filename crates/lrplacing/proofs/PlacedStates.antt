-- placing a goto keeps what always holds of the states under construction
use Rattle.std.proofs.Common.{◌≡◌, ℕ, ◌<◌, List, Some, length, refl, inl, inr, ◌++◌, arith}
use Rattle.std.proofs.lemmas.Bool.{cases_eq}
use Rattle.lrspec.specs.grammars.Grammar.{Symbol, Grammar}
use Rattle.lrspec.specs.grammars.ItemSets.{Items, Fits}
use Rattle.lrspec.specs.grammars.StartState.{IsStartCore}
use Rattle.lrspec.specs.merging.WeakCompatibility.{SameItems}
use Rattle.lrspec.proofs.merging.SharingKept.{union_shared}
use Rattle.lrplacing.specs.Construction.{Draft, core_at, edge_from, Grows, PlacesOne}
use Rattle.lrplacing.specs.Invariant.{HasSharing, HasItemsOfGoto, MayBePlaced, LeadsToItems, HasChain, Holds}
use Rattle.lrplacing.proofs.GrowingItemSets.{same_itself, moved_same, moved_above_zero}
use Rattle.lrplacing.proofs.DraftFacts.{edge_below}
use Rattle.lrplacing.proofs.PlacedCores.{core_items_kept, goto_items_kept, length_grown, other_below, edge_origin, all_cross_kept}

-- the items of a goto go by the items of the core
pub items_of_goto_kept :
    (g : Grammar) (old new : List Draft) (j : ℕ) (y : Symbol) (a b : Items) → SameItems (core_at old j) (core_at new j) → SameItems a b
    → HasItemsOfGoto g old j y a → HasItemsOfGoto g new j y b
items_of_goto_kept g old new j y a b cores s h p d =
    let (there, back) = moved_same {g = g} {x = y} (core_at old j) (core_at new j) cores p d in
    (λ i. there ((h p d).0 ((s p d).1 i)), λ i. (s p d).0 ((h p d).1 (back i)))

-- no item of a goto is the start core's
pub no_start_core : {g : Grammar} (ss : List Draft) (j : ℕ) (y : Symbol) (a b : Items) → IsStartCore g a → SameItems a b → HasItemsOfGoto g ss j y b → ⊥
no_start_core {g} ss j y a b start s h =
    let item = (s g.start_production 0).0 ((start.item g.start_production 0).1 (refl, refl)) in
    moved_above_zero ((h g.start_production 0).0 item) refl

module _ {g : Grammar} {old new : List Draft} {from : ℕ} {x : Symbol} {goto : Items} {k : ℕ} (m : PlacesOne old from x goto k new) where
  -- the start state is the start state still
  pub start_kept : 0 < length old → IsStartCore g (core_at old 0) → MayBePlaced g old from x goto → IsStartCore g (core_at new 0)
  start_kept some start goes =
      elim (cases_eq 0 k) [
        | inl e ↦ elim m.how [
          | inl h ↦ absurd (no_start_core old from x (core_at old k) goto (rw (← e) start) h.items goes.items)
          | inr h ↦ absurd (omega (arith, h.last, e, some))
        ]
        | inr n ↦ rw (m.others 0 n).core start
      ]

  sharing_grown : Grows old new k goto → HasSharing g (core_at old k) → HasSharing g goto → HasSharing g (core_at new k)
  sharing_grown h (ws, root, shared) (vs, other, both) =
      elim h.fits [
        | inl e ↦ rw e (ws, root, shared)
        | inr fits ↦ let (rooted, together) = union_shared ws vs fits root shared other both h.union in (ws ++ vs, rooted, together)
      ]

  -- cores are shared still
  pub sharing_kept :
      ((j : ℕ) → j < length old → HasSharing g (core_at old j)) → HasSharing g goto → (j : ℕ) → j < length new → HasSharing g (core_at new j)
  sharing_kept all shared j below =
      elim (cases_eq j k) [
        | inl e ↦ elim m.how [
          | inl h ↦ let inside : k < length old = omega (arith, h.length_is, e) in rw e (sharing_grown h (all k inside) shared)
          | inr h ↦ rw (e, h.core) shared
        ]
        | inr n ↦ rw (m.others j n).core (all j (other_below m j n below))
      ]

  -- edges lead to states with the items of the goto still
  pub edges_kept :
      from < length old → MayBePlaced g old from x goto → ((j u : ℕ) (y : Symbol) → edge_from old j y ≡ Some u → LeadsToItems g old j y u)
      → (j u : ℕ) (y : Symbol) → edge_from new j y ≡ Some u → LeadsToItems g new j y u
  edges_kept inside goes all j u y e =
      elim (edge_origin m j y u e) [
        | inl (i, n, l) ↦ rw (i, n, l) placed
        | inr before ↦
            let leads = all j u y before in
            record {
              below = omega (arith, leads.below, length_grown m);
              items = items_of_goto_kept g old new j y (core_at old u) (core_at new u) (core_items_kept m j (edge_below old j u y before)) (core_items_kept m u leads.below) leads.items;
            }
      ]
    where
      placed : LeadsToItems g new from x k
      placed = record {
        below = m.taken;
        items = items_of_goto_kept g old new from x goto (core_at new k) (core_items_kept m from inside) (goto_items_kept m) goes.items;
      }

  -- every core fits, where the one fits that took the goto in
  pub fits_kept : ((j : ℕ) → j < length old → Fits g (core_at old j)) → Fits g (core_at new k) → (j : ℕ) → j < length new → Fits g (core_at new j)
  fits_kept all fits j below =
      elim (cases_eq j k) [
        | inl e ↦ rw e fits
        | inr n ↦ rw (m.others j n).core (all j (other_below m j n below))
      ]

  -- placing a goto keeps all that holds, where the core that took it in fits and there is a chain
  pub places_holds :
      Holds g old → from < length old → MayBePlaced g old from x goto → Fits g (core_at new k) → HasChain g new → Holds g new
  places_holds h inside goes fits chain = record {
    some = omega (arith, h.some, length_grown m);
    start = start_kept h.some h.start goes;
    fits = fits_kept h.fits fits;
    sharing = sharing_kept h.sharing goes.sharing;
    edges = edges_kept inside goes h.edges;
    cross = all_cross_kept m h.cross;
    chain = chain;
  }

  -- a goto that may be placed may be placed still
  pub may_be_placed_kept : {y : Symbol} {b : Items} → from < length old → MayBePlaced g old from y b → MayBePlaced g new from y b
  may_be_placed_kept {y} {b} inside goes = record {
    fits = goes.fits;
    sharing = goes.sharing;
    items = items_of_goto_kept g old new from y b b (core_items_kept m from inside) (same_itself b) goes.items;
  }
