-- how many visits can still come
use Rattle.std.proofs.Common.{◌≡◌, ℕ, zero, suc, ◌+◌, ◌*◌, ◌<◌, ◌≤◌, Bool, true, false, List, [], ◌∷◌, Option, None, Some, length, set, length-set, refl, ap, arith}
use Rattle.std.specs.Prelude.{IsTrue}
use Rattle.std.proofs.lemmas.List.{set-get_or}
use Rattle.std.proofs.Math.Nat.{mul-le-mul_right}
use Rattle.lrspec.specs.grammars.Grammar.{Grammar}
use Rattle.lrbits.specs.Bits.{bit}
use Rattle.lrclosing.specs.Rows.{Rows, row_at, room_of, HasGrown}
use Rattle.lrclosing.specs.Visits.{AreMarkedIf, set_count, room, visits_left}

-- the room of one row makes the difference
room_set : (k : ℕ) (rows : Rows) (b : ℕ) (o : Option (List Bool)) → b < length rows → room k (set rows b o) + room_of k (row_at rows b) ≡ room k rows + room_of k o
room_set k [] b o h = absurd (omega arith)
room_set k (x ∷ rows) zero o h = omega arith
room_set k (x ∷ rows) (suc b) o h = let r = room_set k rows b o (omega arith) in omega (arith, r)

-- less room makes up for all that may be to be done then
fewer : (m n l c x : ℕ) → m < n → c ≤ l → m * (l + 1) + c ≤ n * (l + 1) + x
fewer m n l c x h e = let p : suc m * (l + 1) ≤ n * (l + 1) = mul-le-mul_right (l + 1) h in omega (arith, p, e)

pub set_count_le : (v : List Bool) → set_count v ≤ length v
set_count_le [] = omega arith
set_count_le (true ∷ v) = omega (arith, set_count_le v)
set_count_le (false ∷ v) = omega (arith, set_count_le v)

-- a visit leaves no more, which marks something only where a row has changed
pub left_by_row :
    (c : Bool) (k b : ℕ) (rows : Rows) (v todo after : List Bool) → b < length rows → HasGrown k c (row_at rows b) v → length after ≡ length todo
    → (c ≡ false → after ≡ todo) → visits_left k (set rows b (Some v)) after ≤ visits_left k rows todo
left_by_row true k b rows v todo after l h m s =
    let e : room k (set rows b (Some v)) + room_of k (row_at rows b) ≡ room k rows + room_of k (Some v) = room_set k rows b (Some v) l in
    let less : room k (set rows b (Some v)) < room k rows = omega (arith, e, h) in
    let most : set_count after ≤ length todo = omega (arith, set_count_le after, m) in
    rw m (fewer (room k (set rows b (Some v))) (room k rows) (length todo) (set_count after) (set_count todo) less most)
left_by_row false k b rows v todo after l h m s =
    let same : set rows b (Some v) ≡ rows = rw (← h) (set-get_or rows b None) in
    rw (same, s refl) (omega arith)

pub left_by_visit :
    (c : Bool) (g : Grammar) (k b : ℕ) (rows : Rows) (v todo after : List Bool) → b < length rows → HasGrown k c (row_at rows b) v → AreMarkedIf c g b todo after
    → visits_left k (set rows b (Some v)) after ≤ visits_left k rows todo
left_by_visit true g k b rows v todo after l h m = left_by_row true k b rows v todo after l h m.len (λ e. cc)
left_by_visit false g k b rows v todo after l h m = left_by_row false k b rows v todo after l h (ap length m) (λ e. m)

count_cleared : (v : List Bool) (i : ℕ) → IsTrue (bit v i) → set_count (set v i false) + 1 ≡ set_count v
count_cleared [] i h = cc
count_cleared (true ∷ v) zero h = omega arith
count_cleared (false ∷ v) zero h = cc
count_cleared (true ∷ v) (suc i) h = omega (arith, count_cleared v i h)
count_cleared (false ∷ v) (suc i) h = omega (arith, count_cleared v i h)

-- one production less is to be done
pub left_by_taking : (k p : ℕ) (rows : Rows) (todo : List Bool) → IsTrue (bit todo p) → visits_left k rows (set todo p false) < visits_left k rows todo
left_by_taking k p rows todo h =
    let c : set_count (set todo p false) + 1 ≡ set_count todo = count_cleared todo p h in
    rw (length-set todo p false) (omega (arith, c))
