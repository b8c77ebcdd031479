-- A row joined with another, where a slice of rows is split between the two.
use Rattle.std.proofs.Common.{◌≡◌, ℕ, ◌-◌, ◌<◌, Bool, List, [], ◌++◌, length, add-zero, get_or, set, ap, sym, ◌∙◌, arith}
use Rattle.std.proofs.lemmas.List.{length-append, get_or_append_left, get_or-append-add, get_or_default, set-append_left, set-append_right, set-get_or}
use Rattle.lrbits.specs.Bits.{union}
use Rattle.lrgrammar.specs.FirstRows.{row}
use Rattle.lrbits.proofs.Unions.{union_same}

-- a row of the first part
pub row_low : (x low high : List (List Bool)) (i : ℕ) (d : List Bool) → x ≡ low ++ high → i < length low → get_or low i d ≡ row x i
row_low x low high i d e h = get_or_default low i d [] h ∙ rw e (sym (get_or_append_left low high [] i h))

-- the first row of the second part
pub row_high : (x low high : List (List Bool)) (n : ℕ) (d : List Bool) → x ≡ low ++ high → length low ≡ n → 0 < length high → get_or high 0 d ≡ row x n
row_high x low high n d e l h = get_or_default high 0 d [] h ∙ rw (e, ← l) (sym (rw add-zero at (get_or-append-add low high 0 [])))

-- a row of the first part joined with the first row of the second
pub join_low :
    (x low high : List (List Bool)) (to from : ℕ) (n d e : List Bool) → x ≡ low ++ high → length low ≡ from → to < from → from < length x
    → n ≡ union (get_or low to d) (get_or high 0 e) → set low to n ++ high ≡ set x to (union (row x to) (row x from))
join_low x low high to from n d e p l h k u =
    let a : get_or low to d ≡ row x to = row_low x low high to d p (omega arith) in
    let b : get_or high 0 e ≡ row x from = row_high x low high from e p l (omega (arith, ap length p, length-append low high)) in
    let m : n ≡ union (row x to) (row x from) = rw (← a, ← b) u in
    rw (← m, p) (sym (set-append_left low high to n (omega arith)))

-- the first row of the second part joined with a row of the first
pub join_high :
    (x low high : List (List Bool)) (to from : ℕ) (n d e : List Bool) → x ≡ low ++ high → length low ≡ to → from < to → to < length x
    → n ≡ union (get_or high 0 d) (get_or low from e) → low ++ set high 0 n ≡ set x to (union (row x to) (row x from))
join_high x low high to from n d e p l h k u =
    let a : get_or low from e ≡ row x from = row_low x low high from e p (omega arith) in
    let b : get_or high 0 d ≡ row x to = row_high x low high to d p l (omega (arith, ap length p, length-append low high)) in
    let m : n ≡ union (row x to) (row x from) = rw (← a, ← b) u in
    let z : to - to ≡ 0 = omega arith in
    rw (← m, p) (sym (set-append_right low high to to n l (omega arith) ∙ ap (λ k. low ++ set high k n) z))

-- a row joined with itself
pub join_self : (x : List (List Bool)) (to from : ℕ) → to ≡ from → x ≡ set x to (union (row x to) (row x from))
join_self x to from e = rw (← e, union_same (row x to)) (sym (set-get_or x to []))
