-- the union of two item sets on the way
use Rattle.std.proofs.Common.{◌≡◌, ◌≢◌, ℕ, suc, Bool, true, false, List, [], ◌∷◌, Option, None, Some, length, refl, sym, ap, ◌∙◌, ◌⊎◌, inl, inr, ⊎_elim}
use Rattle.std.specs.Prelude.{IsTrue, ◌↔◌, ◌||◌, slice_get, slice_set}
use Rattle.std.specs.Option.{IsSome}
use Rattle.lrspec.specs.grammars.Grammar.{Grammar}
use Rattle.lrspec.specs.grammars.ItemSets.{Items, item_at, HasItem, LooksIn, FitsAt, Fits, AreUpwards}
use Rattle.lrspec.specs.merging.WeakCompatibility.{SameItems, Apart, IsUnion}
use Rattle.lrspec.proofs.grammars.Closures.{has_of_looks}
use Rattle.lrbits.specs.Bits.{bit, union}
use Rattle.lritems.specs.ItemsOf.{joined, HaveBits, Agree}
use Rattle.lritems.specs.Merging.{Gains, HaveSameKeys}
use Rattle.lritems.proofs.ItemsByPlace.{item_at_place, set_here, set_others}
use Rattle.lritems.proofs.SameKeys.{same_place, upwards_from_keys}
use Rattle.lrclosing.proofs.ItemKeys.{same_or_apart}
use Rattle.lrclosing.proofs.WalksOverItems.{first_or_rest}
use Rattle.lrclosing.proofs.PutLookaheads.{put_bits, put_items, put_kept, put_from_item, put_from_look, put_more}

-- on the way to the union of `a` and `b`: `c` is `a` with what `b` has outside of `rest`
pub record IsMerging (n : ℕ) (a b rest c : Items) (changed : Bool) : Type 0 where
  pub bits : HaveBits n c
  pub items : SameItems c a
  pub from : (p d t : ℕ) → LooksIn c p d t → LooksIn a p d t ⊎ LooksIn b p d t
  pub kept : (p d t : ℕ) → LooksIn a p d t → LooksIn c p d t
  pub added : (p d t : ℕ) → LooksIn b p d t → LooksIn c p d t ⊎ HasItem rest p d
  pub same : changed ≡ false → Agree c a
  pub grew : changed ≡ true → Gains a c

-- at first nothing has been merged
pub begin_merging : (n : ℕ) (a b : Items) → HaveBits n a → IsMerging n a b b a false
begin_merging n a b h = record {
  bits = h;
  items = λ p d. (λ k. k, λ k. k);
  from = λ p d t k. inl k;
  kept = λ p d t k. k;
  added = λ p d t k. inr (has_of_looks b p d t k);
  same = λ e p d. refl;
  grew = λ e. cc;
}

-- at the end all has been
pub end_merging : (n : ℕ) (a b rest c : Items) (changed : Bool) → IsMerging n a b rest c changed → rest ≡ [] → IsUnion a b c
end_merging n a b rest c changed m e = record {
  items = m.items;
  looks = λ p d t. (m.from p d t, λ h. ⊎_elim (λ (k : LooksIn a p d t). m.kept p d t k) (λ (k : LooksIn b p d t). added p d t k) h);
}
  where
    added : (p d t : ℕ) → LooksIn b p d t → LooksIn c p d t
    added p d t k =
        ⊎_elim (λ (x : LooksIn c p d t). x) (λ (x : HasItem rest p d). let n : HasItem [] p d = rw e at x in absurd cc) (m.added p d t k)

-- the union fits where the item set did
pub fits_of_merging :
    (n : ℕ) (a b rest c : Items) (changed : Bool) → HaveBits n a → IsMerging n a b rest c changed → (g : Grammar) → Fits g a → Fits g c
fits_of_merging n a b rest c changed h m g f p d v e = go (item_at a p d) refl ((m.items p d).0 (rw e refl))
  where
    go : (o : Option (List Bool)) → item_at a p d ≡ o → IsSome o → FitsAt g p d v
    go None i s = cc
    go (Some w) i s =
        let k = f p d w i in
        record { production = k.production; dot = k.dot; bits = m.bits p d v e ∙ sym (h p d w i) ∙ k.bits }

-- bits joined to others change nothing, or set one more
union_same_or_more : (v w : List Bool) → (union v w ≡ v) ⊎ ((t : ℕ) × IsTrue (bit (union v w) t) × (IsTrue (bit v t) → ⊥))
union_same_or_more [] w = inl refl
union_same_or_more (a ∷ v) [] = inl refl
union_same_or_more (true ∷ v) (b ∷ w) = elim (union_same_or_more v w) [ inl e ↦ inl (ap (λ x. true ∷ x) e) | inr h ↦ inr (suc h.0, h.1, h.2) ]
union_same_or_more (false ∷ v) (true ∷ w) = inr (0, refl, λ h. cc)
union_same_or_more (false ∷ v) (false ∷ w) = elim (union_same_or_more v w) [ inl e ↦ inl (ap (λ x. false ∷ x) e) | inr h ↦ inr (suc h.0, h.1, h.2) ]

or_true : (b : Bool) → (b || true) ≡ true
or_true true = refl
or_true false = refl

or_false : (b : Bool) → (b || false) ≡ b
or_false true = refl
or_false false = refl

-- the lookaheads of one item of `b`, joined to those in `c`
module _
    (n k : ℕ) (a b rest c next : Items) (changed : Bool) (p d : ℕ) (old ctx : List Bool) (m : IsMerging n a b (((p, d), ctx) ∷ rest) c changed) (up : AreUpwards c)
    (at : slice_get c k ≡ Some ((p, d), old)) (gives : item_at b p d ≡ Some ctx) (len : length ctx ≡ n)
    (is : next ≡ slice_set c k ((p, d), union old ctx))
  where
    has : item_at c p d ≡ Some old
    has = item_at_place c k ((p, d), old) up at

    is_new : item_at next p d ≡ Some (union old ctx)
    is_new = rw is (set_here c k p d old (union old ctx) up at)

    here : item_at next p d ≡ Some (joined (item_at c p d) ctx)
    here = is_new ∙ rw has refl

    others : (i e : ℕ) → Apart p d i e → item_at next i e ≡ item_at c i e
    others i e f = rw is (set_others c k p d old (union old ctx) at i e f)

    bits : HaveBits (length ctx) c
    bits i e v h = m.bits i e v h ∙ sym len

    next_bits : HaveBits n next
    next_bits i e v h = put_bits p d ctx c next here others bits i e v h ∙ len

    next_items : SameItems next a
    next_items i e = (
      λ h. (m.items i e).0
          (⊎_elim
          (λ (k : HasItem c i e). k)
          (λ (k : (e ≡ d) × (i ≡ p)). let here_too : HasItem c p d = rw has refl in rw (k.0, k.1) here_too)
          (put_from_item p d ctx c next here others bits i e h)),
      λ h. put_items p d ctx c next here others bits i e ((m.items i e).1 h),
    )

    next_from : (i e t : ℕ) → LooksIn next i e t → LooksIn a i e t ⊎ LooksIn b i e t
    next_from i e t h =
        ⊎_elim
        (λ (k : LooksIn c i e t). m.from i e t k)
        (λ (k : (e ≡ d) × (i ≡ p) × IsTrue (bit ctx t)). let l : LooksIn b p d t = rw gives k.2 in inr (rw (k.0, k.1) l))
        (put_from_look p d ctx c next here others bits i e t h)

    next_added : (i e t : ℕ) → LooksIn b i e t → LooksIn next i e t ⊎ HasItem rest i e
    next_added i e t h =
        ⊎_elim
        (λ (k : LooksIn c i e t). inl (put_kept p d ctx c next here others bits i e t k))
        (λ (k : HasItem (((p, d), ctx) ∷ rest) i e).
        ⊎_elim
        (λ (s : (i ≡ p) × (e ≡ d)).
        let l : LooksIn b p d t = rw (s.0, s.1) at h in
        let z : IsTrue (bit ctx t) = rw gives at l in
        inl (rw (s.0, s.1) (put_more p d ctx c next here others bits t z)))
        (λ (x : HasItem rest i e). inr x)
        (first_or_rest p d ctx rest i e k))
        (m.added i e t h)

    -- what holds whether or not it changed
    next_merging : (after : Bool) → (after ≡ false → Agree next a) → (after ≡ true → Gains a next) → IsMerging n a b rest next after
    next_merging after s g = record {
      bits = next_bits;
      items = next_items;
      from = next_from;
      kept = λ i e t h. put_kept p d ctx c next here others bits i e t (m.kept i e t h);
      added = next_added;
      same = s;
      grew = g;
    }

    -- it changed
    changed_now : (union old ctx ≢ old) → Gains a next
    changed_now differ =
        ⊎_elim
        (λ (e : union old ctx ≡ old). absurd (differ e))
        (λ (h : (t : ℕ) × IsTrue (bit (union old ctx) t) × (IsTrue (bit old t) → ⊥)).
        record {
          p = p;
          d = d;
          t = h.0;
          now = rw is_new h.1;
          before = λ l. let k : LooksIn c p d h.0 = m.kept p d h.0 l in h.2 (rw has at k);
        })
        (union_same_or_more old ctx)

    gained_before : Gains a c → Gains a next
    gained_before g = record { p = g.p; d = g.d; t = g.t; now = put_kept p d ctx c next here others bits g.p g.d g.t g.now; before = g.before }

    still_same : (r : Bool) → r ≡ false → (IsTrue r ↔ (union old ctx ≢ old)) → Agree c a → Agree next a
    still_same r f t s i e =
        ⊎_elim
        (λ (k : union old ctx ≡ old).
        ⊎_elim
        (λ (x : (i ≡ p) × (e ≡ d)). let same_here : item_at next p d ≡ item_at a p d = is_new ∙ ap (λ v. Some v) k ∙ sym has ∙ s p d in rw (x.0, x.1) same_here)
        (λ (x : Apart p d i e). others i e x ∙ s i e)
        (same_or_apart p d i e))
        (λ (h : (t : ℕ) × IsTrue (bit (union old ctx) t) × (IsTrue (bit old t) → ⊥)).
        let yes : r ≡ true = t.1 (λ same. h.2 (rw same at h.1)) in absurd cc)
        (union_same_or_more old ctx)

    pub turn_merged : (r : Bool) → (IsTrue r ↔ (union old ctx ≢ old)) → IsMerging n a b rest next (changed || r)
    turn_merged true f = rw (or_true changed) (next_merging true (λ x. absurd cc) (λ x. changed_now (f.0 refl)))
    turn_merged false f = rw (or_false changed) (next_merging changed (λ x. still_same false refl f (m.same x)) (λ x. gained_before (m.grew x)))

-- the item to which lookaheads are joined is there, with as many bits
pub there_to_merge :
    (n k : ℕ) (a b rest c : Items) (changed : Bool) (f : (ℕ × ℕ) × List Bool) → HaveBits n b → IsMerging n a b rest c changed → AreUpwards b → HaveSameKeys b c
    → slice_get b k ≡ Some f → (v : List Bool) × (slice_get c k ≡ Some (f.0, v)) × (length f.1 ≡ length v)
there_to_merge n k a b rest c changed f h m u s at =
    let there = same_place b c k f s at in
    let mine = item_at_place c k (f.0, there.0) (upwards_from_keys b c s u) there.1 in
    (there.0, there.1, h f.0.0 f.0.1 f.1 (item_at_place b k f u at) ∙ sym (m.bits f.0.0 f.0.1 there.0 mine))
