-- rows that stay, one joined with another
use Rattle.std.proofs.Common.{◌≡◌, ◌≢◌, ℕ, zero, suc, ◌-◌, ◌<◌, ◌≤◌, Bool, List, [], ◌∷◌, ◌++◌, Some, length, get_or, set, refl, arith}
use Rattle.std.specs.Prelude.{IsTrue, slice_get, ◌↔◌}
use Rattle.std.proofs.lemmas.Option.{get_or_from_slice_get, same_Some}
use Rattle.std.proofs.lemmas.List.{set-append_left, set-append_right}
use Rattle.lrbits.specs.Bits.{union}
use Rattle.lrclosing.specs.declared.closer.Row.{Row}
use Rattle.lrclosing.specs.Leads.{joined_row}

-- an element that is there, read below and above a seam
read_below : {X : Type 0} (xs ys : List X) (i : ℕ) (d x : X) → i < length xs → slice_get (xs ++ ys) i ≡ Some x → get_or xs i d ≡ x
read_below [] ys i d x h e = absurd (omega arith)
read_below (z ∷ xs) ys zero d x h e = same_Some z x e
read_below (z ∷ xs) ys (suc i) d x h e = read_below xs ys i d x (omega arith) e

read_above : {X : Type 0} (xs ys : List X) (d x : X) → slice_get (xs ++ ys) (length xs) ≡ Some x → get_or ys 0 d ≡ x
read_above [] ys d x e = get_or_from_slice_get ys 0 x d e
read_above (z ∷ xs) ys d x e = read_above xs ys d x e

-- the row of one rule is joined with that of another one above it
pub joined_below :
    (rows xs ys : List Row) (to from : ℕ) (v w a b : Row) (t : List Bool) → rows ≡ xs ++ ys → length xs ≡ from → to < from → slice_get rows to ≡ Some v
    → slice_get rows from ≡ Some w → t ≡ union (get_or xs to a).ctx (get_or ys 0 b).ctx
    → set xs to (record { ctx = t; is_reached = (get_or xs to a).is_reached }) ++ ys ≡ set rows to (joined_row v w)
joined_below rows xs ys to from v w a b t e l h i j u =
    let within : to < length xs = omega arith in
    let one : get_or xs to a ≡ v = read_below xs ys to a v within (rw e at i) in
    let two : get_or ys 0 b ≡ w = read_above xs ys b w (rw (e, ← l) at j) in
    rw (e, set-append_left xs ys to (joined_row v w) within, u, one, two) refl

-- and with that of one below it
pub joined_above :
    (rows xs ys : List Row) (to from : ℕ) (v w a b : Row) (t : List Bool) → rows ≡ xs ++ ys → length xs ≡ to → from < to → slice_get rows to ≡ Some v
    → slice_get rows from ≡ Some w → t ≡ union (get_or ys 0 a).ctx (get_or xs from b).ctx
    → xs ++ set ys 0 (record { ctx = t; is_reached = (get_or ys 0 a).is_reached }) ≡ set rows to (joined_row v w)
joined_above rows xs ys to from v w a b t e l h i j u =
    let within : from < length xs = omega arith in
    let two : get_or xs from b ≡ w = read_below xs ys from b w within (rw e at j) in
    let one : get_or ys 0 a ≡ v = read_above xs ys a v (rw (e, ← l) at i) in
    let zero : to - to ≡ 0 = omega arith in
    let low : to ≤ to = omega arith in
    let sets : set (xs ++ ys) to (joined_row v w) ≡ xs ++ set ys (to - to) (joined_row v w) = set-append_right xs ys to to (joined_row v w) l low in
    rw (e, sets, zero, u, one, two) refl

-- whether that changed it
pub joined_changed :
    (c : Bool) (x y v w : Row) (t : List Bool) → x ≡ v → y ≡ w → t ≡ union x.ctx y.ctx → (IsTrue c ↔ (t ≢ x.ctx)) → (IsTrue c ↔ (union v.ctx w.ctx ≢ v.ctx))
joined_changed c x y v w t e h u k = rw (u, e, h) at k

pub changed_below :
    (c : Bool) (rows xs ys : List Row) (to from : ℕ) (v w a b : Row) (t : List Bool) → rows ≡ xs ++ ys → length xs ≡ from → to < from → slice_get rows to ≡ Some v
    → slice_get rows from ≡ Some w → t ≡ union (get_or xs to a).ctx (get_or ys 0 b).ctx → (IsTrue c ↔ (t ≢ (get_or xs to a).ctx))
    → (IsTrue c ↔ (union v.ctx w.ctx ≢ v.ctx))
changed_below c rows xs ys to from v w a b t e l h i j u k =
    let within : to < length xs = omega arith in
    let one : get_or xs to a ≡ v = read_below xs ys to a v within (rw e at i) in
    let two : get_or ys 0 b ≡ w = read_above xs ys b w (rw (e, ← l) at j) in
    joined_changed c (get_or xs to a) (get_or ys 0 b) v w t one two u k

pub changed_above :
    (c : Bool) (rows xs ys : List Row) (to from : ℕ) (v w a b : Row) (t : List Bool) → rows ≡ xs ++ ys → length xs ≡ to → from < to → slice_get rows to ≡ Some v
    → slice_get rows from ≡ Some w → t ≡ union (get_or ys 0 a).ctx (get_or xs from b).ctx → (IsTrue c ↔ (t ≢ (get_or ys 0 a).ctx))
    → (IsTrue c ↔ (union v.ctx w.ctx ≢ v.ctx))
changed_above c rows xs ys to from v w a b t e l h i j u k =
    let within : from < length xs = omega arith in
    let two : get_or xs from b ≡ w = read_below xs ys from b w within (rw e at j) in
    let one : get_or ys 0 a ≡ v = read_above xs ys a v (rw (e, ← l) at i) in
    joined_changed c (get_or ys 0 a) (get_or xs from b) v w t one two u k
