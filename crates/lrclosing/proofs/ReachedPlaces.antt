-- the list of the rules whose rows are reached, by one bit a rule
use Rattle.std.proofs.Common.{◌≡◌, ℕ, zero, suc, ◌+◌, ◌<◌, ◌≤◌, Bool, true, false, List, [], ◌∷◌, ◌++◌, Some, length, get_or, set, length-set, get_or-set_other, refl, sym, ap, ◌∙◌, arith, inl, inr}
use Rattle.std.specs.Prelude.{IsTrue, if◌then◌else◌, slice_get, vec_capacity}
use Rattle.std.specs.List.{All, Contains}
use Rattle.std.specs.declared.alloc.Global.{Global}
use Rattle.std.specs.declared.vec.Vec.{Vec}
use Rattle.std.proofs.lemmas.Bool.{cases_eq}
use Rattle.std.proofs.lemmas.List.{length-append}
use Rattle.std.proofs.lemmas.List.Elements.{All-contains_itself}
use Rattle.std.proofs.lemmas.Option.{same_Some, slice_get-get_or, slice_get_within}
use Rattle.lrspec.proofs.grammars.ListMembers.{among_from_contains, contains_from_among, among_front, among_back, among_append}
use Rattle.lrbits.specs.Bits.{bit}
use Rattle.lrbits.proofs.UnsetBits.{set_again}
use Rattle.lrclosing.specs.declared.closer.Row.{Row}
use Rattle.lrclosing.specs.Visits.{HasNone, set_count}
use Rattle.lrclosing.specs.Leads.{reached_of}
use Rattle.lrclosing.specs.Closer.{AreReached, AreWithin, NoneToDoFrom, IsPlaceToDo}
use Rattle.lrclosing.proofs.MarkedProductions.{below_of_bit}
use Rattle.lrclosing.proofs.PassedOn.{set_keeps, set_here, set_from}
use Rattle.lrclosing.proofs.VisitedLeads.{IsSetIf}
use Rattle.lrclosing.proofs.VisitsLeft.{set_count_le}

-- one bit more is set
count_more : (v : List Bool) (b : ℕ) → b < length v → bit v b ≡ false → set_count (set v b true) ≡ set_count v + 1
count_more [] b l e = absurd (omega arith)
count_more (true ∷ v) zero l e = cc
count_more (false ∷ v) zero l e = omega arith
count_more (true ∷ v) (suc b) l e = omega (arith, count_more v b (omega arith) e)
count_more (false ∷ v) (suc b) l e = omega (arith, count_more v b (omega arith) e)

-- where a bit isn't set, not all are
count_below : (v : List Bool) (b : ℕ) → b < length v → bit v b ≡ false → set_count v < length v
count_below [] b l e = absurd (omega arith)
count_below (true ∷ v) zero l e = cc
count_below (false ∷ v) zero l e = omega (arith, set_count_le v)
count_below (true ∷ v) (suc b) l e = omega (arith, count_below v b (omega arith) e)
count_below (false ∷ v) (suc b) l e = omega (arith, count_below v b (omega arith) e)

-- the list has room for a rule that isn't reached
pub reached_room : (v : List Bool) (b : ℕ) (ks : Vec ℕ Global) → AreReached v ks → b < length v → bit v b ≡ false → length ks.items < vec_capacity ks
reached_room v b ks r l e = omega (arith, r.count, r.room, count_below v b l e)

-- a rule is reached
pub reached_more :
    (was : Bool) (v : List Bool) (b : ℕ) (ks ls : Vec ℕ Global) → AreReached v ks → b < length v → bit v b ≡ was
    → ls.items ≡ (if was then ks.items else ks.items ++ b ∷ []) → vec_capacity ls ≡ vec_capacity ks → AreReached (set v b true) ls
reached_more true v b ks ls r l e i c = record {
  each = λ a h. rw (set_again v b e) (r.each a (rw i at h));
  all = λ a h. rw i (r.all a (rw (set_again v b e) at h));
  count = rw (set_again v b e, i) r.count;
  room = rw (set_again v b e, c) r.room;
}
reached_more false v b ks ls r l e i c = record {
  each = λ a h. elim (among_append a ks.items (b ∷ []) (among_from_contains a (ks.items ++ b ∷ []) (rw i at h))) [
    | inl k ↦ set_keeps v b a (r.each a (contains_from_among a ks.items k))
    | inr k ↦ elim k [ inl s ↦ rw s (set_here v b l) | inr n ↦ absurd n ]
  ];
  all = λ a h. rw i (contains_from_among a (ks.items ++ b ∷ []) (elim (set_from v b a h) [
    | inl s ↦ among_back a ks.items (b ∷ []) (inl s)
    | inr k ↦ among_front a ks.items (b ∷ []) (among_from_contains a ks.items (r.all a k))
  ]));
  count = rw i (omega (arith, length-append ks.items (b ∷ []), count_more v b l e, r.count));
  room = rw (length-set v b true, c) r.room;
}

-- what is reached are rules
pub reached_below : (v : List Bool) (ks : Vec ℕ Global) (n : ℕ) → length v ≡ n → AreReached v ks → All (λ a. a < n) ks.items
reached_below v ks n e r = λ i d l. omega (arith, below_of_bit v _ (r.each _ (All-contains_itself ks.items i d l)), e)

-- whether a row is reached is its bit
pub bit_of_row : (rs : List Row) (b : ℕ) (d : Row) → b < length rs → bit (reached_of rs) b ≡ (get_or rs b d).is_reached
bit_of_row [] b d l = absurd (omega arith)
bit_of_row (x ∷ rs) zero d l = refl
bit_of_row (x ∷ rs) (suc b) d l = bit_of_row rs b d (omega arith)

-- the rule at a place to do is to be done
pub rule_to_do : (ks : List ℕ) (todo : List Bool) (k x : ℕ) → x ≡ get_or ks k x → IsPlaceToDo ks todo k → IsTrue (bit todo x)
rule_to_do ks todo k x e p =
    let at : slice_get ks k ≡ Some x = slice_get-get_or ks k x (slice_get_within ks k p.0 p.1) ∙ ap (λ z. Some z) (sym e) in
    rw (same_Some x p.0 (sym at ∙ p.1)) p.2

-- where none that is listed is to be done, none is
pub none_to_do : (v todo : List Bool) (ks : Vec ℕ Global) → AreReached v ks → AreWithin todo v → NoneToDoFrom ks.items todo 0 → HasNone todo
none_to_do v todo ks r w n a h =
    let k = r.all a (w a h) in
    n k.0 a (omega arith) (slice_get-get_or ks.items k.0 a k.1 ∙ ap (λ z. Some z) k.2) h

-- what is to be done is reached, where a rule comes to both
pub within_set : (todo v : List Bool) (b : ℕ) → b < length v → AreWithin todo v → AreWithin (set todo b true) (set v b true)
within_set todo v b l w a h = elim (set_from todo b a h) [ inl s ↦ rw s (set_here v b l) | inr k ↦ set_keeps v b a (w a k) ]

pub within_set_if :
    (c : Bool) (todo after v u : List Bool) (b : ℕ) → b < length v → IsSetIf c b todo after → IsSetIf c b v u → AreWithin todo v → AreWithin after u
within_set_if true todo after v u b l s t w = rw (s, t) (within_set todo v b l w)
within_set_if false todo after v u b l s t w = rw (s, t) w

-- or is to be done no more
pub within_taken : (todo v : List Bool) (b : ℕ) → IsTrue (bit todo b) → AreWithin todo v → AreWithin (set todo b false) v
within_taken todo v b h w a k = elim (cases_eq a b) [
  | inl s ↦ rw s (w b h)
  | inr n ↦ w a (rw (get_or-set_other) at k)
]

-- none is reached
count_none : (v : List Bool) → ((a : ℕ) → IsTrue (bit v a) → ⊥) → set_count v ≡ 0
count_none [] n = refl
count_none (true ∷ v) n = absurd (n 0 refl)
count_none (false ∷ v) n = omega (arith, count_none v (λ a h. n (suc a) h))

pub reached_none : (v : List Bool) (ks : Vec ℕ Global) → ((a : ℕ) → IsTrue (bit v a) → ⊥) → ks.items ≡ [] → length v ≤ vec_capacity ks → AreReached v ks
reached_none v ks n e room = record {
  each = λ a h. let k : Contains [] a = rw e at h in absurd (omega (arith, k.1));
  all = λ a h. absurd (n a h);
  count = rw (e, count_none v n) refl;
  room = room;
}

-- a bit that is written where that changed something
pub set_if_true : (c : Bool) (b : ℕ) (v u : List Bool) → c ≡ true → IsSetIf c b v u → u ≡ set v b true
set_if_true true b v u h e = e
set_if_true false b v u h e = cc

pub set_if_false : (c : Bool) (b : ℕ) (v u : List Bool) → c ≡ false → IsSetIf c b v u → u ≡ v
set_if_false true b v u h e = cc
set_if_false false b v u h e = e
