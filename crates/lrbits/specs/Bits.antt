-- Bit vectors: a bit, the union of two, and the places of set bits.
use Rattle.std.specs.Prelude.{ℕ, ◌+◌, ◌-◌, Bool, false, if◌then◌else◌, ◌||◌, IsTrue, List, [], ◌∷◌, take, drop, slice_index_or}

-- whether the bit `i` is set; no bit past the end is
abbrev pub bit : List Bool → ℕ → Bool
bit v i = slice_index_or v i false

-- the union of two vectors, as long as the first
abbrev pub union : List Bool → List Bool → List Bool
union [] w = []
union (a ∷ v) [] = a ∷ v
union (a ∷ v) (b ∷ w) = (a || b) ∷ union v w

-- the vectors share a set bit
abbrev pub Intersect : List Bool → List Bool → Type 0
Intersect v w = (i : ℕ) × IsTrue (bit v i) × IsTrue (bit w i)

-- the places of the set bits, where the first bit is number `n`
abbrev pub places : ℕ → List Bool → List ℕ
places n [] = []
places n (b ∷ v) = if b then n ∷ places (n + 1) v else places (n + 1) v

-- the set places of a range, upwards
abbrev pub set_places : List Bool → ℕ → ℕ → List ℕ
set_places v from to = places from (take (to - from) (drop from v))

-- how many bits are not set
abbrev pub unset : List Bool → ℕ
unset [] = 0
unset (b ∷ v) = (if b then 0 else 1) + unset v
