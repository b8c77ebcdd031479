-- the items of all gotos come upwards, since those of the item set do
use Rattle.std.proofs.Common.{◌≡◌, ℕ, zero, suc, Bool, List, [], ◌∷◌, ◌++◌, Some, arith, inl, inr}
use Rattle.std.specs.Prelude.{slice_get, slice_set}
use Rattle.lrspec.specs.grammars.Grammar.{Symbol}
use Rattle.lrspec.specs.grammars.ItemSets.{Items, Precedes, AreUpwards}
use Rattle.lritems.specs.Gotos.{AllUpwards, IsMadeReady, IsPutAt}
use Rattle.lritems.proofs.ItemsAscending.{AllBefore, AllBehind, AreAscending, ascending_from_upwards, upwards_pushed, before_pushed}

-- each item of each goto comes before `k`
abbrev pub AllComeBefore : List (Symbol × Items) → ℕ × ℕ → Type 0
AllComeBefore [] k = Unit {0}
AllComeBefore (e ∷ es) k = AllBefore e.1 k × AllComeBefore es k

-- each comes before each item that is left, with its dot moved
abbrev pub ComeBeforeLeft : List (Symbol × Items) → Items → Type 0
ComeBeforeLeft gs [] = Unit {0}
ComeBeforeLeft gs (e ∷ rest) = AllComeBefore gs (e.0.0, suc e.0.1) × ComeBeforeLeft gs rest

-- the gotos grow upwards with the items that are left
pub record GrowUpwards (rest : Items) (gs : List (Symbol × Items)) : Type 0 where
  pub upwards : AllUpwards gs
  pub left : ComeBeforeLeft gs rest
  pub ascending : AreAscending rest

none_upwards : AreUpwards []
none_upwards i j d l m = absurd (omega arith)

-- at first there is none
pub begin_growing : (c rest : Items) (gs : List (Symbol × Items)) → gs ≡ [] → rest ≡ c → AreUpwards c → GrowUpwards rest gs
begin_growing c rest gs e f u = rw (e, f) record { upwards = tt; left = left c; ascending = ascending_from_upwards c u }
  where
    left : (a : Items) → ComeBeforeLeft [] a
    left [] = tt
    left (b ∷ a) = (tt, left a)

-- an item is passed
pub skip_growing : (e : (ℕ × ℕ) × List Bool) (rest : Items) (gs : List (Symbol × Items)) → GrowUpwards (e ∷ rest) gs → GrowUpwards rest gs
skip_growing e rest gs h = record { upwards = h.upwards; left = h.left.1; ascending = h.ascending.1 }

-- an empty goto
ready_growing : (rest : Items) (x : Symbol) (gs hs : List (Symbol × Items)) → IsMadeReady x gs hs → GrowUpwards rest gs → GrowUpwards rest hs
ready_growing rest x gs hs (inl e) h = rw e h
ready_growing rest x gs hs (inr r) h = rw r.1 record { upwards = upwards gs h.upwards; left = left rest h.left; ascending = h.ascending }
  where
    upwards : (fs : List (Symbol × Items)) → AllUpwards fs → AllUpwards (fs ++ (x, []) ∷ [])
    upwards [] u = (none_upwards, tt)
    upwards (e ∷ fs) u = (u.0, upwards fs u.1)

    before : (fs : List (Symbol × Items)) (k : ℕ × ℕ) → AllComeBefore fs k → AllComeBefore (fs ++ (x, []) ∷ []) k
    before [] k b = (tt, tt)
    before (e ∷ fs) k b = (b.0, before fs k b.1)

    left : (a : Items) → ComeBeforeLeft gs a → ComeBeforeLeft (gs ++ (x, []) ∷ []) a
    left [] l = tt
    left (e ∷ a) l = (before gs (e.0.0, suc e.0.1) l.0, left a l.1)

before_at : (gs : List (Symbol × Items)) (k : ℕ) (x : Symbol) (a : Items) (j : ℕ × ℕ) → slice_get gs k ≡ Some (x, a) → AllComeBefore gs j → AllBefore a j
before_at [] k x a j e b = cc
before_at (f ∷ gs) zero x a j e b =
    let s : Some f ≡ Some (x, a) = e in
    let same : f ≡ (x, a) = cc in
    rw same at b.0
before_at (f ∷ gs) (suc k) x a j e b = before_at gs k x a j e b.1

upwards_at : (gs : List (Symbol × Items)) (k : ℕ) (x : Symbol) (a : Items) → slice_get gs k ≡ Some (x, a) → AllUpwards gs → AreUpwards a
upwards_at [] k x a e u = cc
upwards_at (f ∷ gs) zero x a e u =
    let s : Some f ≡ Some (x, a) = e in
    let same : f ≡ (x, a) = cc in
    rw same at u.0
upwards_at (f ∷ gs) (suc k) x a e u = upwards_at gs k x a e u.1

set_upwards : (gs : List (Symbol × Items)) (k : ℕ) (x : Symbol) (a : Items) → AreUpwards a → AllUpwards gs → AllUpwards (slice_set gs k (x, a))
set_upwards [] k x a w u = tt
set_upwards (e ∷ gs) zero x a w u = (w, u.1)
set_upwards (e ∷ gs) (suc k) x a w u = (u.0, set_upwards gs k x a w u.1)

set_before : (gs : List (Symbol × Items)) (k : ℕ) (x : Symbol) (a : Items) (j : ℕ × ℕ) → AllBefore a j → AllComeBefore gs j → AllComeBefore (slice_set gs k (x, a)) j
set_before [] k x a j w b = tt
set_before (e ∷ gs) zero x a j w b = (w, b.1)
set_before (e ∷ gs) (suc k) x a j w b = (b.0, set_before gs k x a j w b.1)

moved_precedes : (j k : ℕ × ℕ) → Precedes j k → Precedes (j.0, suc j.1) (k.0, suc k.1)
moved_precedes j k (inl h) = inl h
moved_precedes j k (inr h) = inr (h.0, omega (arith, h.1))

-- the first item that is left is put into a goto that is made ready
module _
    (rest : Items) (gs hs is : List (Symbol × Items)) (p d e k : ℕ) (ctx : List Bool) (x : Symbol) (h : GrowUpwards (((p, d), ctx) ∷ rest) gs) (next : e ≡ suc d)
    (ready : IsMadeReady x gs hs) (put : IsPutAt k p e ctx hs is)
  where
    -- it comes behind each that is there
    pub behind_there : AllBefore put.before (p, e)
    behind_there = rw next (before_at hs k put.symbol put.before (p, suc d) put.was (ready_growing (((p, d), ctx) ∷ rest) x gs hs ready h).left.0)

    set_left : (a : Items) → AllBehind (p, d) a → ComeBeforeLeft hs a → ComeBeforeLeft (slice_set hs k (put.symbol, put.before ++ ((p, e), ctx) ∷ [])) a
    set_left [] b l = tt
    set_left (f ∷ a) b l =
        let j : ℕ × ℕ = (f.0.0, suc f.0.1) in
        let moved : Precedes (p, e) j = rw next (moved_precedes (p, d) f.0 b.0) in (
          set_before hs k put.symbol (put.before ++ ((p, e), ctx) ∷ []) j
              (before_pushed put.before j (p, e) ctx (before_at hs k put.symbol put.before j put.was l.0) moved) l.0,
          set_left a b.1 l.1,
        )

    pub put_growing : GrowUpwards rest is
    put_growing =
        let r = ready_growing (((p, d), ctx) ∷ rest) x gs hs ready h in
        rw put.is record {
          upwards = set_upwards hs k put.symbol (put.before ++ ((p, e), ctx) ∷ [])
              (upwards_pushed put.before (p, e) ctx (upwards_at hs k put.symbol put.before put.was r.upwards) behind_there) r.upwards;
          left = set_left rest h.ascending.0 r.left.1;
          ascending = h.ascending.1;
        }
