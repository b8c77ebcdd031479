-- lookaheads that are put in at items
use Rattle.std.proofs.Common.{◌≡◌, ℕ, Bool, List, Some, length, refl, sym, ◌∙◌, ◌⊎◌, inl, inr, ⊎_elim}
use Rattle.std.specs.Prelude.{IsTrue}
use Rattle.lrspec.specs.grammars.ItemSets.{Items, item_at, HasItem, LooksIn}
use Rattle.lrspec.specs.merging.WeakCompatibility.{Apart}
use Rattle.lrbits.specs.Bits.{bit}
use Rattle.lrclosing.specs.ItemsOf.{joined, HaveBits}
use Rattle.lrclosing.specs.Rows.{ArePut}
use Rattle.lrclosing.proofs.ItemKeys.{same_or_apart}
use Rattle.lrclosing.proofs.JoinedLookaheads.{joined_old, joined_more, joined_from, length_joined}

-- lookaheads put in at one item
module _
    (q d : ℕ) (ctx : List Bool) (old new : Items)
    (here : item_at new q d ≡ Some (joined (item_at old q d) ctx))
    (others : (i e : ℕ) → Apart q d i e → item_at new i e ≡ item_at old i e)
    (bits : HaveBits (length ctx) old)
  where
    lengths : (v : List Bool) → item_at old q d ≡ Some v → length v ≡ length ctx
    lengths v e = bits q d v e

    pub put_bits : HaveBits (length ctx) new
    put_bits i e v h =
        ⊎_elim
        (λ (s : (i ≡ q) × (e ≡ d)).
        let k : Some (joined (item_at old q d) ctx) ≡ Some v = sym here ∙ (rw (s.0, s.1) at h) in
        let same : joined (item_at old q d) ctx ≡ v = cc in
        rw (← same) (length_joined (item_at old q d) ctx lengths))
        (λ (f : Apart q d i e). bits i e v (sym (others i e f) ∙ h))
        (same_or_apart q d i e)

    pub put_has : HasItem new q d
    put_has = rw here refl

    put_looks : (t : ℕ) → IsTrue (bit (joined (item_at old q d) ctx) t) → LooksIn new q d t
    put_looks t h = rw here h

    pub put_items : (i e : ℕ) → HasItem old i e → HasItem new i e
    put_items i e h =
        ⊎_elim (λ (s : (i ≡ q) × (e ≡ d)). rw (s.0, s.1) put_has) (λ (f : Apart q d i e). rw (others i e f) h) (same_or_apart q d i e)

    pub put_kept : (i e t : ℕ) → LooksIn old i e t → LooksIn new i e t
    put_kept i e t h =
        ⊎_elim
        (λ (s : (i ≡ q) × (e ≡ d)).
        let k : LooksIn old q d t = rw (s.0, s.1) at h in
        rw (s.0, s.1) (put_looks t (joined_old (item_at old q d) ctx t lengths k)))
        (λ (f : Apart q d i e). rw (others i e f) h)
        (same_or_apart q d i e)

    pub put_from_item : (i e : ℕ) → HasItem new i e → HasItem old i e ⊎ ((e ≡ d) × (i ≡ q))
    put_from_item i e h =
        ⊎_elim (λ (s : (i ≡ q) × (e ≡ d)). inr (s.1, s.0)) (λ (f : Apart q d i e). inl (rw (others i e f) at h)) (same_or_apart q d i e)

    pub put_from_look : (i e t : ℕ) → LooksIn new i e t → LooksIn old i e t ⊎ ((e ≡ d) × (i ≡ q) × IsTrue (bit ctx t))
    put_from_look i e t h =
        ⊎_elim
        (λ (s : (i ≡ q) × (e ≡ d)).
        let k : LooksIn new q d t = rw (s.0, s.1) at h in
        let b : IsTrue (bit (joined (item_at old q d) ctx) t) = rw here at k in
        ⊎_elim
        (λ (x : LooksIn old q d t). inl (rw (s.0, s.1) x))
        (λ (x : IsTrue (bit ctx t)). inr (s.1, s.0, x))
        (joined_from (item_at old q d) ctx t lengths b))
        (λ (f : Apart q d i e). inl (rw (others i e f) at h))
        (same_or_apart q d i e)

    pub put_more : (t : ℕ) → IsTrue (bit ctx t) → LooksIn new q d t
    put_more t h = put_looks t (joined_more (item_at old q d) ctx t lengths h)

-- lookaheads put in at dot 0 of one production
pub put_one :
    (q d : ℕ) → d ≡ 0 → (ctx : List Bool) (old new : Items) → item_at new q d ≡ Some (joined (item_at old q d) ctx)
    → ((i e : ℕ) → Apart q d i e → item_at new i e ≡ item_at old i e) → HaveBits (length ctx) old → ArePut (λ i. i ≡ q) ctx old new
put_one q d zero ctx old new here others bits = record {
  contains = record { items = put_items q d ctx old new here others bits; looks = put_kept q d ctx old new here others bits };
  from_item = λ i e h. elim (put_from_item q d ctx old new here others bits i e h) [ inl k ↦ inl k | inr k ↦ inr (k.0 ∙ zero, k.1) ];
  from_look = λ i e t h. elim (put_from_look q d ctx old new here others bits i e t h) [ inl k ↦ inl k | inr k ↦ inr (k.0 ∙ zero, (k.1, k.2)) ];
  items = λ i e. rw (e, ← zero) (put_has q d ctx old new here others bits);
  looks = λ i t h. rw (h.0, ← zero) (put_more q d ctx old new here others bits t h.1);
}
