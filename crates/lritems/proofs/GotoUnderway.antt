-- a goto on the way
use Rattle.std.proofs.Common.{◌≡◌, ℕ, suc, Bool, List, [], Option, None, Some, length, refl, sym, ◌∙◌, ◌⊎◌, inl, inr, ⊎_elim}
use Rattle.std.specs.Prelude.{IsTrue}
use Rattle.std.specs.Option.{IfSome}
use Rattle.lrspec.specs.grammars.Grammar.{Symbol, Grammar, token_count, body_of}
use Rattle.lrspec.specs.grammars.ItemSets as set
use Rattle.lrspec.specs.grammars.ItemSets.{Items, item_at, HasItem, LooksIn, Fits, IsBefore, Moved, IsGoto}
use Rattle.lrspec.specs.merging.WeakCompatibility.{Apart}
use Rattle.lrspec.proofs.grammars.BodyFacts.{below_of_drop}
use Rattle.lrspec.proofs.grammars.Closures.{has_of_looks}
use Rattle.lrbits.specs.Bits.{bit}
use Rattle.lritems.specs.ItemsOf.{joined, HaveBits}
use Rattle.lrclosing.proofs.JoinedLookaheads.{some_of}
use Rattle.lrclosing.proofs.PutLookaheads.{put_bits, put_has, put_items, put_kept, put_from_item, put_from_look, put_more}

-- on the way to the goto of `a` on `x`: what isn't among `rest` has been moved
pub record IsMoving (g : Grammar) (a : Items) (x : Symbol) (rest b : Items) : Type 0 where
  pub fits : Fits g b
  pub from_item : (p d : ℕ) → HasItem b p d → Moved g x (HasItem a) p d
  pub from_look : (p d t : ℕ) → LooksIn b p d t → Moved g x (λ q e. LooksIn a q e t) p d
  pub items : (p d : ℕ) → HasItem a p d → IsBefore g p d x → HasItem b p (suc d) ⊎ HasItem rest p d
  pub looks : (p d t : ℕ) → LooksIn a p d t → IsBefore g p d x → LooksIn b p (suc d) t ⊎ HasItem rest p d

-- at first nothing has been moved
pub begin_moving : (g : Grammar) (a rest b : Items) (x : Symbol) → b ≡ [] → rest ≡ a → IsMoving g a x rest b
begin_moving g a rest b x e h = rw (e, h) record {
  fits = λ p d v k. cc;
  from_item = λ p d k. cc;
  from_look = λ p d t k. absurd k;
  items = λ p d k i. inr k;
  looks = λ p d t k i. inr (has_of_looks a p d t k);
}

-- at the end all has been
pub end_moving : (g : Grammar) (a rest b : Items) (x : Symbol) → IsMoving g a x rest b → rest ≡ [] → IsGoto g a x b
end_moving g a rest b x m e = record {
  items = λ p d. (m.from_item p d, item_moved p d);
  looks = λ p d t. (m.from_look p d t, look_moved p d t);
}
  where
    none : (p d : ℕ) → HasItem rest p d → ⊥
    none p d h = let k : HasItem [] p d = rw e at h in cc

    item_moved : (p d : ℕ) → Moved g x (HasItem a) p d → HasItem b p d
    item_moved p e (set.Moved.moved {d = d} h i) = ⊎_elim (λ (k : HasItem b p (suc d)). k) (λ (k : HasItem rest p d). absurd (none p d k)) (m.items p d h i)

    look_moved : (p d t : ℕ) → Moved g x (λ q e. LooksIn a q e t) p d → LooksIn b p d t
    look_moved p e t (set.Moved.moved {d = d} h i) =
        ⊎_elim (λ (k : LooksIn b p (suc d) t). k) (λ (k : HasItem rest p d). absurd (none p d k)) (m.looks p d t h i)

-- an item that isn't before the symbol
pub skip_moving :
    (g : Grammar) (a rest less b : Items) (x : Symbol) (p d : ℕ) → IsMoving g a x rest b
    → ((i e : ℕ) → HasItem rest i e → ((i ≡ p) × (e ≡ d)) ⊎ HasItem less i e) → (IsBefore g p d x → ⊥) → IsMoving g a x less b
skip_moving g a rest less b x p d m turn n = record {
  fits = m.fits;
  from_item = m.from_item;
  from_look = m.from_look;
  items = λ i e h k.
      ⊎_elim
      (λ (y : HasItem b i (suc e)). inl y)
      (λ (y : HasItem rest i e).
      ⊎_elim (λ (s : (i ≡ p) × (e ≡ d)). absurd (n (rw (s.0, s.1) at k))) (λ (z : HasItem less i e). inr z) (turn i e y))
      (m.items i e h k);
  looks = λ i e t h k.
      ⊎_elim
      (λ (y : LooksIn b i (suc e) t). inl y)
      (λ (y : HasItem rest i e).
      ⊎_elim (λ (s : (i ≡ p) × (e ≡ d)). absurd (n (rw (s.0, s.1) at k))) (λ (z : HasItem less i e). inr z) (turn i e y))
      (m.looks i e t h k);
}

-- an item before the symbol, moved
module _
    (g : Grammar) (a rest less b next : Items) (x : Symbol) (p d : ℕ) (ctx : List Bool) (f : Fits g a) (m : IsMoving g a x rest b)
    (turn : (i e : ℕ) → HasItem rest i e → ((i ≡ p) × (e ≡ d)) ⊎ HasItem less i e) (before : IsBefore g p d x) (item : item_at a p d ≡ Some ctx)
    (here : item_at next p (suc d) ≡ Some (joined (item_at b p (suc d)) ctx))
    (others : (i e : ℕ) → Apart p (suc d) i e → item_at next i e ≡ item_at b i e)
  where
    bits : HaveBits (length ctx) b
    bits i e v h = (m.fits i e v h).bits ∙ sym (f p d ctx item).bits

    has : HasItem a p d
    has = rw item refl

    moved_fits : Fits g next
    moved_fits i e v h =
        ⊎_elim
        (λ (k : HasItem b i e).
        let o = some_of (item_at b i e) k in
        let w = m.fits i e o.0 o.1 in
        record { production = w.production; dot = w.dot; bits = put_bits p (suc d) ctx b next here others bits i e v h ∙ (f p d ctx item).bits })
        (λ (k : (e ≡ suc d) × (i ≡ p)).
        let w = f p d ctx item in
        rw (k.0, k.1) record {
          production = w.production;
          dot = below_of_drop (body_of g p) d x before.0 before.1;
          bits = put_bits p (suc d) ctx b next here others bits i e v h ∙ (f p d ctx item).bits;
        })
        (put_from_item p (suc d) ctx b next here others bits i e (rw h refl))

    pub move_moving : IsMoving g a x less next
    move_moving = record {
      fits = moved_fits;
      from_item = λ i e h.
          ⊎_elim
          (λ (k : HasItem b i e). m.from_item i e k)
          (λ (k : (e ≡ suc d) × (i ≡ p)). rw (k.0, k.1) (set.Moved.moved has before))
          (put_from_item p (suc d) ctx b next here others bits i e h);
      from_look = λ i e t h.
          ⊎_elim
          (λ (k : LooksIn b i e t). m.from_look i e t k)
          (λ (k : (e ≡ suc d) × (i ≡ p) × IsTrue (bit ctx t)). let l : LooksIn a p d t = rw item k.2 in rw (k.0, k.1) (set.Moved.moved l before))
          (put_from_look p (suc d) ctx b next here others bits i e t h);
      items = λ i e h k.
          ⊎_elim
          (λ (y : HasItem b i (suc e)). inl (put_items p (suc d) ctx b next here others bits i (suc e) y))
          (λ (y : HasItem rest i e).
          ⊎_elim
          (λ (s : (i ≡ p) × (e ≡ d)). inl (rw (s.0, s.1) (put_has p (suc d) ctx b next here others bits)))
          (λ (z : HasItem less i e). inr z)
          (turn i e y))
          (m.items i e h k);
      looks = λ i e t h k.
          ⊎_elim
          (λ (y : LooksIn b i (suc e) t). inl (put_kept p (suc d) ctx b next here others bits i (suc e) t y))
          (λ (y : HasItem rest i e).
          ⊎_elim
          (λ (s : (i ≡ p) × (e ≡ d)).
          let l : LooksIn a p d t = rw (s.0, s.1) at h in
          let z : IsTrue (bit ctx t) = rw item at l in
          inl (rw (s.0, s.1) (put_more p (suc d) ctx b next here others bits t z)))
          (λ (z : HasItem less i e). inr z)
          (turn i e y))
          (m.looks i e t h k);
    }

-- what an item may be added with
pub fits_to_add : (g : Grammar) (b : Items) (p d : ℕ) (ctx : List Bool) → Fits g b → length ctx ≡ token_count g → IfSome (item_at b p d) (λ v. length ctx ≡ length v)
fits_to_add g b p d ctx f e = go (item_at b p d) refl
  where
    go : (o : Option (List Bool)) → item_at b p d ≡ o → IfSome o (λ v. length ctx ≡ length v)
    go None h = tt
    go (Some v) h = e ∙ sym (f p d v h).bits
