-- all gotos of an item set on the way
use Rattle.std.proofs.Common.{◌≡◌, ℕ, zero, suc, Bool, true, false, List, [], ◌∷◌, ◌++◌, map, Option, None, Some, length, refl, sym, ap, ◌∙◌, ◌⊎◌, inl, inr, ⊎_elim, arith}
use Rattle.std.specs.Prelude.{IsTrue, slice_get, slice_set}
use Rattle.lrspec.specs.grammars.Grammar.{Symbol, Grammar, rest}
use Rattle.lrspec.specs.grammars.ItemSets as set
use Rattle.lrspec.specs.grammars.ItemSets.{Items, item_at, HasItem, LooksIn, Fits, IsBefore, Moved}
use Rattle.lrspec.specs.merging.WeakCompatibility.{Apart}
use Rattle.lrspec.proofs.grammars.Closures.{has_of_looks}
use Rattle.lrbits.specs.Bits.{bit, union}
use Rattle.lritems.specs.ItemsOf.{joined}
use Rattle.lritems.specs.Gotos.{HasItemBefore, HasGotoOn, AreOnDistinctSymbols, AreGotosToPlace, AreGotosOf, AllUpwards, symbols_shown, HasGotoAt, IsMadeReady, IsPutAt}
use Rattle.lritems.proofs.ItemsAscending.{AllBefore, pushed_here, pushed_others}
use Rattle.lritems.proofs.GotoUnderway.{IsMoving, end_moving, skip_moving, move_moving}
use Rattle.lritems.proofs.GotoPlaces.{on_from_at, on_longer, set_on, on_set, symbol_at, same_at}

-- one symbol alone stands behind a dot
one_behind : (g : Grammar) (p d : ℕ) (x y : Symbol) → IsBefore g p d x → IsBefore g p d y → y ≡ x
one_behind g p d x y h k = let same : y ∷ k.0 ≡ x ∷ h.0 = sym k.1 ∙ h.1 in cc

-- the item that was moved
before_moved : (g : Grammar) (x : Symbol) (Item : ℕ → ℕ → Type 0) (p e d : ℕ) → e ≡ suc d → Moved g x Item p e → Item p d
before_moved g x Item p e d s (set.Moved.moved {d = i} h b) = let same : i ≡ d = cc in rw (← same) h

-- bits of which none is new
union_below : (v w : List Bool) → length v ≡ length w → ((t : ℕ) → IsTrue (bit v t) → IsTrue (bit w t)) → union v w ≡ w
union_below [] [] e h = refl
union_below [] (b ∷ w) e h = cc
union_below (a ∷ v) [] e h = cc
union_below (true ∷ v) (b ∷ w) e h = let s : b ≡ true = h 0 refl in rw (s, union_below v w (omega (arith, e)) (λ t. h (suc t))) refl
union_below (false ∷ v) (b ∷ w) e h = ap (λ u. b ∷ u) (union_below v w (omega (arith, e)) (λ t. h (suc t)))

-- each goto has what isn't among `rest`
abbrev pub AreEachMoving : Grammar → Items → Items → List (Symbol × Items) → Type 0
AreEachMoving g c rest [] = Unit {0}
AreEachMoving g c rest (e ∷ es) = (IsMoving g c e.0 rest e.1 × HasItemBefore g c e.0) × AreEachMoving g c rest es

-- on the way to the gotos of `c`: those of what isn't among `rest`
pub record AreMoving (g : Grammar) (c rest : Items) (gs : List (Symbol × Items)) : Type 0 where
  pub each : AreEachMoving g c rest gs
  pub distinct : AreOnDistinctSymbols gs
  pub all : (p d : ℕ) (x : Symbol) → HasItem c p d → IsBefore g p d x → HasGotoOn gs x ⊎ HasItem rest p d

-- at first there is none
pub begin_gotos : (g : Grammar) (c rest : Items) (gs : List (Symbol × Items)) → gs ≡ [] → rest ≡ c → AreMoving g c rest gs
begin_gotos g c rest gs e f = rw (e, f) record { each = tt; distinct = tt; all = λ p d x h k. inr h }

-- at the end each is whole
pub end_gotos :
    (g : Grammar) (c rest : Items) (gs : List (Symbol × Items)) → AreMoving g c rest gs → AllUpwards gs → symbols_shown g (map (λ e. e.0) gs) rest ≡ symbols_shown g [] c → rest ≡ []
    → AreGotosOf g c gs
end_gotos g c rest gs m u o e = record {
  each = each gs m.each;
  upwards = u;
  distinct = m.distinct;
  all = λ p d x h k. ⊎_elim (λ (y : HasGotoOn gs x). y) (λ (y : HasItem rest p d). let n : HasItem [] p d = rw e at y in absurd cc) (m.all p d x h k);
  order = rw e at o;
}
  where
    each : (hs : List (Symbol × Items)) → AreEachMoving g c rest hs → AreGotosToPlace g c hs
    each [] h = tt
    each (f ∷ hs) h = (record { is_goto = end_moving g c rest f.1 f.0 h.0.0 e; fits = h.0.0.fits; before = h.0.1 }, each hs h.1)

-- an item of `c` is passed
module _ (g : Grammar) (c rest less : Items) (p d : ℕ) (turn : (i e : ℕ) → HasItem rest i e → ((i ≡ p) × (e ≡ d)) ⊎ HasItem less i e) where
  -- gotos on symbols that don't stand behind its dot
  skip_each :
      (gs : List (Symbol × Items)) → AreEachMoving g c rest gs → ((x : Symbol) → HasGotoOn gs x → IsBefore g p d x → ⊥) → AreEachMoving g c less gs
  skip_each [] h n = tt
  skip_each (e ∷ gs) h n = ((skip_moving g c rest less e.1 e.0 p d h.0.0 turn (n e.0 (inl refl)), h.0.1), skip_each gs h.1 (λ x k. n x (inr k)))

  -- no symbol stands behind its dot
  pub skip_gotos : (gs : List (Symbol × Items)) → AreMoving g c rest gs → ((x : Symbol) → IsBefore g p d x → ⊥) → AreMoving g c less gs
  skip_gotos gs m n = record {
    each = skip_each gs m.each (λ x h. n x);
    distinct = m.distinct;
    all = λ i e x h k.
        ⊎_elim
        (λ (y : HasGotoOn gs x). inl y)
        (λ (y : HasItem rest i e).
        ⊎_elim (λ (s : (i ≡ p) × (e ≡ d)). absurd (n x (rw (s.0, s.1) at k))) (λ (z : HasItem less i e). inr z) (turn i e y))
        (m.all i e x h k);
  }

  -- it is moved into the goto at a place
  module _
      (ctx : List Bool) (f : Fits g c) (x : Symbol) (before : IsBefore g p d x) (item : item_at c p d ≡ Some ctx)
      (b next : Items) (here : item_at next p (suc d) ≡ Some ctx) (others : (i e : ℕ) → Apart p (suc d) i e → item_at next i e ≡ item_at b i e)
    where
      looks_there : (v : List Bool) (t : ℕ) → IsMoving g c x rest b → item_at b p (suc d) ≡ Some v → IsTrue (bit v t) → IsTrue (bit ctx t)
      looks_there v t m e h =
          let l : LooksIn b p (suc d) t = rw e h in
          let k : LooksIn c p d t = before_moved g x (λ q j. LooksIn c q j t) p (suc d) d refl (m.from_look p (suc d) t l) in
          rw item at k

      -- the bits that were there are among those of the item
      whole : IsMoving g c x rest b → joined (item_at b p (suc d)) ctx ≡ ctx
      whole m = go (item_at b p (suc d)) refl
        where
          go : (o : Option (List Bool)) → item_at b p (suc d) ≡ o → joined o ctx ≡ ctx
          go None e = refl
          go (Some v) e = union_below v ctx ((m.fits p (suc d) v e).bits ∙ sym (f p d ctx item).bits) (λ t h. looks_there v t m e h)

      move_one : IsMoving g c x rest b → IsMoving g c x less next
      move_one m = move_moving g c rest less b next x p d ctx f m turn before item (here ∙ ap (λ v. Some v) (sym (whole m))) others

      move_each :
          (gs : List (Symbol × Items)) (k : ℕ) → AreEachMoving g c rest gs → AreOnDistinctSymbols gs → slice_get gs k ≡ Some (x, b)
          → AreEachMoving g c less (slice_set gs k (x, next))
      move_each [] k h s e = cc
      move_each (e ∷ gs) zero h s t =
          let same : Some e ≡ Some (x, b) = t in
          let is : e ≡ (x, b) = cc in
          let m : IsMoving g c x rest b × HasItemBefore g c x = rw is at h.0 in
          let n : HasGotoOn gs x → ⊥ = rw is at s.0 in
          ((move_one m.0, m.1), skip_each gs h.1 (λ y k i. n (rw (one_behind g p d x y before i) at k)))
      move_each (e ∷ gs) (suc k) h s t = (
        (skip_moving g c rest less e.1 e.0 p d h.0.0 turn (λ i. s.0 (rw (one_behind g p d x e.0 before i) (on_from_at gs k x (b, t)))), h.0.1),
        move_each gs k h.1 s.1 t,
      )

      set_distinct : (gs : List (Symbol × Items)) (k : ℕ) → slice_get gs k ≡ Some (x, b) → AreOnDistinctSymbols gs → AreOnDistinctSymbols (slice_set gs k (x, next))
      set_distinct [] k e s = s
      set_distinct (e ∷ gs) zero t s =
          let same : Some e ≡ Some (x, b) = t in
          let is : e ≡ (x, b) = cc in
          let n : HasGotoOn gs x → ⊥ = rw is at s.0 in
          (n, s.1)
      set_distinct (e ∷ gs) (suc k) t s = (λ h. s.0 (on_set gs k e.0 x b next t h), set_distinct gs k t s.1)

      pub move_gotos :
          (gs : List (Symbol × Items)) (k : ℕ) → AreMoving g c rest gs → slice_get gs k ≡ Some (x, b) → AreMoving g c less (slice_set gs k (x, next))
      move_gotos gs k m t = record {
        each = move_each gs k m.each m.distinct t;
        distinct = set_distinct gs k t m.distinct;
        all = λ i e y h j.
            ⊎_elim
            (λ (z : HasGotoOn gs y). inl (set_on gs k y x b next t z))
            (λ (z : HasItem rest i e).
            ⊎_elim
            (λ (s : (i ≡ p) × (e ≡ d)).
            let same : y ≡ x = one_behind g p d x y before (rw (s.0, s.1) at j) in
            inl (set_on gs k y x b next t (rw same (on_from_at gs k x (b, t)))))
            (λ (w : HasItem less i e). inr w)
            (turn i e z))
            (m.all i e y h j);
      }

-- an empty goto on a symbol that has none
pub ready_gotos :
    (g : Grammar) (c rest : Items) (gs hs : List (Symbol × Items)) (x : Symbol) → AreMoving g c rest gs → HasItemBefore g c x → IsMadeReady x gs hs → AreMoving g c rest hs
ready_gotos g c rest gs hs x m b (inl e) = rw e m
ready_gotos g c rest gs hs x m b (inr h) = rw h.1 record {
  each = each gs m.each;
  distinct = distinct gs m.distinct h.0;
  all = λ p d y i j. ⊎_elim (λ (k : HasGotoOn gs y). inl (longer gs y k)) (λ (k : HasItem rest p d). inr k) (m.all p d y i j);
}
  where
    empty : IsMoving g c x rest []
    empty = record {
      fits = λ p d v k. cc;
      from_item = λ p d k. cc;
      from_look = λ p d t k. absurd k;
      items = λ p d k i. inr (left p d k i);
      looks = λ p d t k i. inr (left p d (has_of_looks c p d t k) i);
    }
      where
        left : (p d : ℕ) → HasItem c p d → IsBefore g p d x → HasItem rest p d
        left p d k i = ⊎_elim (λ (z : HasGotoOn gs x). absurd (h.0 z)) (λ (z : HasItem rest p d). z) (m.all p d x k i)

    each : (fs : List (Symbol × Items)) → AreEachMoving g c rest fs → AreEachMoving g c rest (fs ++ (x, []) ∷ [])
    each [] k = ((empty, b), tt)
    each (e ∷ fs) k = (k.0, each fs k.1)

    distinct : (fs : List (Symbol × Items)) → AreOnDistinctSymbols fs → (HasGotoOn fs x → ⊥) → AreOnDistinctSymbols (fs ++ (x, []) ∷ [])
    distinct [] s n = (λ k. k, tt)
    distinct (e ∷ fs) s n = (
      λ k. ⊎_elim (λ (z : HasGotoOn fs e.0). s.0 z) (λ (z : e.0 ≡ x). n (inl (sym z))) (on_longer fs x [] e.0 k),
      distinct fs s.1 (λ k. n (inr k)),
    )

    longer : (fs : List (Symbol × Items)) (y : Symbol) → HasGotoOn fs y → HasGotoOn (fs ++ (x, []) ∷ []) y
    longer [] y k = absurd k
    longer (e ∷ fs) y (inl k) = inl k
    longer (e ∷ fs) y (inr k) = inr (longer fs y k)

-- a turn: the item is put into the goto on the symbol behind its dot
pub put_gotos :
    (g : Grammar) (c rest less : Items) (gs hs is : List (Symbol × Items)) (p d e k : ℕ) (ctx : List Bool) (x : Symbol)
    → ((i j : ℕ) → HasItem rest i j → ((i ≡ p) × (j ≡ d)) ⊎ HasItem less i j) → Fits g c → AreMoving g c rest gs → IsBefore g p d x → item_at c p d ≡ Some ctx → e ≡ suc d
    → IsMadeReady x gs hs → HasGotoAt hs k x → (put : IsPutAt k p e ctx hs is) → AllBefore put.before (p, e) → AreMoving g c less is
put_gotos g c rest less gs hs is p d e k ctx x turn f m before item next ready at put behind =
    let has : HasItem c p d = rw item refl in
    let there : slice_get hs k ≡ Some (x, put.before) = same_at hs k x put.symbol put.before at put.was in
    let same : put.symbol ≡ x = symbol_at hs k x put.symbol put.before at put.was in
    rw (put.is, same)
    (move_gotos g c rest less p d turn ctx f x before item put.before (put.before ++ ((p, e), ctx) ∷ []) (rw (← next) (pushed_here put.before p e ctx behind))
    (rw (← next) (pushed_others put.before p e ctx)) hs k (ready_gotos g c rest gs hs x m (p, d, has, before) ready) there)
