-- The places of set bits.
use Rattle.std.proofs.Common.{◌≡◌, ℕ, zero, suc, ◌+◌, ◌-◌, ◌<◌, ◌≤◌, Bool, true, false, List, [], ◌∷◌, length, take, drop, get_or, slice_index, Contains, IsTrue, ◌↔◌, refl, sym, ◌∙◌, arith, add-one}
use Rattle.std.proofs.lemmas.List.{get_or-take, get_or-drop}
use Rattle.std.specs.List.Sorted.{IsStrictlyIncreasing}
use Rattle.lrbits.specs.Bits.{bit, places, set_places}
use Rattle.std.proofs.Common.{◌≡◌, ℕ, zero, suc, ◌+◌, ◌-◌, ◌<◌, ◌≤◌, Bool, true, false, List, [], ◌∷◌, length, drop, get_or, refl, sym, ◌∙◌, arith, add-one}
use Rattle.lrbits.specs.Bits.{bit, set_places}

-- what stands in `places` is the place of a set bit
pub places_set : (n : ℕ) (v : List Bool) (i k : ℕ) → k < length (places n v) → get_or (places n v) k i ≡ i
    → (j : ℕ) × (i ≡ n + j) × (get_or v j false ≡ true)
places_set n [] i k h e = absurd (omega arith)
places_set n (true ∷ v) i zero h e = (0, omega (arith, e), refl)
places_set n (true ∷ v) i (suc k) h e =
    let p = places_set (n + 1) v i k (omega arith) e in
    (suc p.0, omega (arith, p.1), p.2)
places_set n (false ∷ v) i k h e =
    let p = places_set (n + 1) v i k h e in
    (suc p.0, omega (arith, p.1), p.2)

-- the place of a set bit stands in `places`
pub places_of_set : (n : ℕ) (v : List Bool) (i j : ℕ) → i ≡ n + j → get_or v j false ≡ true → Contains (places n v) i
places_of_set n [] i j e s = cc
places_of_set n (true ∷ v) i zero e s = (0, omega arith, omega (arith, e))
places_of_set n (false ∷ v) i zero e s = cc
places_of_set n (true ∷ v) i (suc j) e s =
    let p = places_of_set (n + 1) v i j (omega (arith, e)) s in
    (suc p.0, omega (arith, p.1), p.2)
places_of_set n (false ∷ v) i (suc j) e s =
    places_of_set (n + 1) v i j (omega (arith, e)) s

-- no place is below the number of the first bit
pub places_from : (n : ℕ) (v : List Bool) (k : ℕ) → k < length (places n v) → n ≤ slice_index (places n v) k
places_from n [] k h = absurd (omega arith)
places_from n (true ∷ v) zero h = omega arith
places_from n (true ∷ v) (suc k) h = omega (arith, places_from (n + 1) v k (omega arith))
places_from n (false ∷ v) k h = omega (arith, places_from (n + 1) v k h)

-- each place is below the next
pub places_upwards : (n : ℕ) (v : List Bool) (k : ℕ) → suc k < length (places n v)
    → slice_index (places n v) k < slice_index (places n v) (suc k)
places_upwards n [] k h = absurd (omega arith)
places_upwards n (true ∷ v) zero h = omega (arith, places_from (n + 1) v 0 (omega arith))
places_upwards n (true ∷ v) (suc k) h = places_upwards (n + 1) v k (omega arith)
places_upwards n (false ∷ v) k h = places_upwards (n + 1) v k h

-- a set bit of the first `m` stands among them
pub take_set : (m : ℕ) (v : List Bool) (j : ℕ) → get_or (take m v) j false ≡ true → (j < m) × (get_or v j false ≡ true)
take_set zero v j s = cc
take_set (suc m) [] j s = cc
take_set (suc m) (a ∷ v) zero s = (omega arith, s)
take_set (suc m) (a ∷ v) (suc j) s =
    let p = take_set m v j s in
    (omega (arith, p.0), p.1)

-- what the set places of a range are
pub set_places_members : (v : List Bool) (from to : ℕ) → from ≤ to → (i : ℕ)
    → Contains (set_places v from to) i ↔ ((from ≤ i) × (i < to) × IsTrue (bit v i))
set_places_members v from to h i = (λ c. set_there v from to i c, λ s. stands_there v from to i h s)
  where
    set_there : (v : List Bool) (from to i : ℕ) → Contains (set_places v from to) i → (from ≤ i) × (i < to) × IsTrue (bit v i)
    set_there v from to i c =
        let p = places_set from (take (to - from) (drop from v)) i c.0 c.1 c.2 in
        let t = take_set (to - from) (drop from v) p.0 p.2 in
        (omega (arith, p.1), omega (arith, p.1, t.0), rw p.1 (sym (get_or-drop from v p.0 false) ∙ t.1))

    stands_there : (v : List Bool) (from to i : ℕ) → from ≤ to → (from ≤ i) × (i < to) × IsTrue (bit v i)
        → Contains (set_places v from to) i
    stands_there v from to i h s =
        let e : i ≡ from + (i - from) = omega (arith, s.0) in
        places_of_set from (take (to - from) (drop from v)) i (i - from) e
        (get_or-take (to - from) (drop from v) (i - from) false (omega (arith, s.0, s.1))
        ∙ get_or-drop from v (i - from) false ∙ rw (← e) s.2)

-- the set places of a range ascend
pub set_places_upwards : (v : List Bool) (from to : ℕ) → IsStrictlyIncreasing (set_places v from to)
set_places_upwards v from to k h =
    rw add-one (places_upwards from (take (to - from) (drop from v)) k (omega (arith, h)))
