-- placing a goto at an equal core, at one that takes it in, and at a new state, and then setting the edge
use Rattle.std.proofs.Common.{◌≡◌, ◌≢◌, ℕ, ◌+◌, ◌<◌, List, false, length, None, Some, refl, sym, ap, ◌∙◌, arith, ◌⊎◌, inl, inr}
use Rattle.std.specs.Prelude.{slice_get, ◌==◌, ◌&&◌, if◌then◌else◌}
use Rattle.std.proofs.lemmas.Bool.{cases_eq}
use Rattle.lrspec.specs.grammars.Grammar.{Symbol, Grammar}
use Rattle.lrspec.specs.grammars.ItemSets.{Items, LooksIn, Fits}
use Rattle.lrspec.specs.merging.WeakCompatibility.{SameItems, IsWeaklyCompatible, Clash, IsUnion}
use Rattle.lrspec.specs.merging.Graph.{same_symbol, edge_at}
use Rattle.lritems.specs.ItemsOf.{Agree}
use Rattle.lrplacing.specs.Construction.{Draft, draft_core, draft_closed, draft_edges, core_at, closed_at, edge_from, Stays, Gains, Grows, Makes, PlacesOne}
use Rattle.lrplacing.proofs.DraftFacts.{none_past}

-- the goto was put at the state `k`, and the edge is still to be set
pub record IsPut (old new : List Draft) (goto : Items) (k : ℕ) : Type 0 where
  pub taken : k < length new
  pub edges : (j : ℕ) (y : Symbol) → edge_from new j y ≡ edge_from old j y
  pub others : (j : ℕ) → j ≢ k → Stays old new j
  pub how : Grows old new k goto ⊎ Makes old new k goto

grows_same :
    {old mid new : List Draft} {k : ℕ} {goto : Items} → length new ≡ length mid → Stays mid new k → Grows old mid k goto → Grows old new k goto
grows_same l s m = record {
  length_is = l ∙ m.length_is;
  items = m.items;
  fits = elim m.fits [ inl e ↦ inl (s.core ∙ e) | inr w ↦ inr w ];
  union = rw s.core m.union;
  fits_kept = λ n f. rw s.core (m.fits_kept n f);
  closed = rw (s.core, s.closed) m.closed;
}

makes_same :
    {old mid new : List Draft} {k : ℕ} {goto : Items} → length new ≡ length mid → Stays mid new k → Makes old mid k goto → Makes old new k goto
makes_same l s m = record { length_is = l ∙ m.length_is; last = m.last; core = s.core ∙ m.core; closed = s.closed ∙ m.closed; clashes = m.clashes }

-- what was put and linked is placed
pub put_places :
    {old mid new : List Draft} (from : ℕ) (x : Symbol) {goto : Items} (k : ℕ) → IsPut old mid goto k → length new ≡ length mid
    → ((j : ℕ) → Stays mid new j)
    → ((j : ℕ) (y : Symbol) → edge_from new j y ≡ if ((j == from) && same_symbol y x) then Some k else edge_from mid j y)
    → PlacesOne old from x goto k new
put_places from x k p l s e = record {
  taken = rw l p.taken;
  edges = λ j y. e j y ∙ ap (λ o. if ((j == from) && same_symbol y x) then Some k else o) (p.edges j y);
  others = λ j n. let q = p.others j n in record { core = (s j).core ∙ q.core; closed = (s j).closed ∙ q.closed };
  how = elim p.how [ inl m ↦ inl (grows_same l (s k) m) | inr m ↦ inr (makes_same l (s k) m) ];
}

same_from_agree : (a b : Items) → Agree a b → SameItems a b
same_from_agree a b h p d = (λ i. rw (h p d) at i, λ i. rw (h p d) i)

union_of_equal : (a b : Items) → Agree a b → IsUnion a b a
union_of_equal a b h = record {
  items = λ p d. (λ i. i, λ i. i);
  looks = λ p d t. (λ l. inl l, λ l. elim l [ inl m ↦ m | inr m ↦ rw (h p d) m ]);
}

-- a goto that is equal to a core changes nothing
pub put_equal : (ss : List Draft) (goto : Items) (k : ℕ) → k < length ss → Agree (core_at ss k) goto → IsPut ss ss goto k
put_equal ss goto k l h = record {
  taken = l;
  edges = λ j y. refl;
  others = λ j n. record { core = refl; closed = refl };
  how = inl (record {
    length_is = refl;
    items = same_from_agree (core_at ss k) goto h;
    fits = inl refl;
    union = union_of_equal (core_at ss k) goto h;
    fits_kept = λ n f. f;
    closed = inl (λ p d t m. m, refl);
  });
}

stays_from : (old new : List Draft) (j : ℕ) → slice_get new j ≡ slice_get old j → Stays old new j
stays_from old new j e = record { core = ap draft_core e; closed = ap draft_closed e }

pub edges_from : (old new : List Draft) (j : ℕ) → slice_get new j ≡ slice_get old j → (y : Symbol) → edge_from new j y ≡ edge_from old j y
edges_from old new j e y = ap (λ o. edge_at (draft_edges o) y) e

-- a goto that a core takes in
pub put_merged :
    (old new : List Draft) (goto : Items) (k : ℕ) → k < length old → IsWeaklyCompatible (core_at old k) goto → length new ≡ length old
    → ((j : ℕ) → j ≢ k → slice_get new j ≡ slice_get old j) → ((y : Symbol) → edge_from new k y ≡ edge_from old k y)
    → IsUnion (core_at old k) goto (core_at new k) → ((g : Grammar) → Fits g (core_at old k) → Fits g (core_at new k))
    → ((((p d t : ℕ) → LooksIn (core_at new k) p d t → LooksIn (core_at old k) p d t) × (closed_at new k ≡ closed_at old k))
    ⊎ ((closed_at new k ≡ false) × Gains (core_at old k) (core_at new k)))
    → IsPut old new goto k
put_merged old new goto k b w l others edges union fits closed = record {
  taken = rw l b;
  edges = λ j y. elim (cases_eq j k) [ inl e ↦ rw e (edges y) | inr n ↦ edges_from old new j (others j n) y ];
  others = λ j n. stays_from old new j (others j n);
  how = inl (record { length_is = l; items = w.items; fits = inr w; union = union; fits_kept = fits; closed = closed });
}

-- a goto for which a state is made
pub put_made :
    (old new : List Draft) (goto : Items) (k : ℕ) → k ≡ length old → length new ≡ length old + 1
    → ((j : ℕ) → j ≢ length old → slice_get new j ≡ slice_get old j) → core_at new (length old) ≡ goto → closed_at new (length old) ≡ false
    → ((y : Symbol) → edge_from new (length old) y ≡ None)
    → ((j : ℕ) → j < length old → SameItems (core_at old j) goto → Clash (core_at old j) goto) → IsPut old new goto k
put_made old new goto k e l others core closed edges clashes =
    let none : slice_get old (length old) ≡ None = none_past old (length old) (omega arith) in
    rw e record {
      taken = omega (arith, l);
      edges = λ j y. elim (cases_eq j (length old)) [ inl i ↦ rw i (edges y ∙ sym (ap (λ o. edge_at (draft_edges o) y) none)) | inr n ↦ edges_from old new j (others j n) y ];
      others = λ j n. stays_from old new j (others j n);
      how = inr (record { length_is = l; last = refl; core = core; closed = closed; clashes = clashes });
    }
