-- The union of two bit vectors, bit by bit.
use Rattle.std.proofs.Common.{◌≡◌, ℕ, zero, suc, ◌<◌, Bool, true, false, List, [], ◌∷◌, length, get_or, refl, ap, arith, ◌⊎◌, inl, inr, ⊎_elim}
use Rattle.lrbits.specs.Bits.{union}
use Rattle.lrbits.specs.Bits.{unset}
use Rattle.std.proofs.Common.{◌≡◌, ℕ, zero, suc, ◌<◌, Bool, true, false, ◌||◌, List, [], ◌∷◌, length, get_or, refl, ap, arith}
use Rattle.lrbits.specs.Bits.{bit, union}

pub length-union : (v w : List Bool) → length (union v w) ≡ length v
length-union [] w = refl
length-union (a ∷ v) [] = refl
length-union (a ∷ v) (b ∷ w) = ap suc (length-union v w)

-- a union with itself changes nothing
pub union_same : (v : List Bool) → union v v ≡ v
union_same [] = refl
union_same (true ∷ v) = ap (λ x. true ∷ x) (union_same v)
union_same (false ∷ v) = ap (λ x. false ∷ x) (union_same v)

-- a set bit of a union is one of either vector
pub union_bit : (v w : List Bool) (i : ℕ) → get_or (union v w) i false ≡ true
    → (get_or v i false ≡ true) ⊎ (get_or w i false ≡ true)
union_bit [] w i h = inl h
union_bit (a ∷ v) [] i h = inl h
union_bit (true ∷ v) (b ∷ w) zero h = inl refl
union_bit (false ∷ v) (b ∷ w) zero h = inr h
union_bit (a ∷ v) (b ∷ w) (suc i) h = union_bit v w i h

-- a set bit of the second vector is set in the union
pub union_bit_second : (v w : List Bool) (i : ℕ) → length w ≡ length v → get_or w i false ≡ true
    → get_or (union v w) i false ≡ true
union_bit_second [] [] i e h = h
union_bit_second [] (b ∷ w) i e h = absurd (omega arith)
union_bit_second (a ∷ v) [] i e h = cc
union_bit_second (true ∷ v) (b ∷ w) zero e h = refl
union_bit_second (false ∷ v) (b ∷ w) zero e h = h
union_bit_second (a ∷ v) (b ∷ w) (suc i) e h = union_bit_second v w i (omega arith) h

-- a union is the first vector, or has fewer bits that are not set
pub union_grows : (v w : List Bool) → (union v w ≡ v) ⊎ (unset (union v w) < unset v)
union_grows [] w = inl refl
union_grows (a ∷ v) [] = inl refl
union_grows (true ∷ v) (b ∷ w) =
    ⊎_elim
    (λ (e : union v w ≡ v). inl (ap (λ x. true ∷ x) e))
    (λ (h : unset (union v w) < unset v). inr (omega arith))
    (union_grows v w)
union_grows (false ∷ v) (false ∷ w) =
    ⊎_elim
    (λ (e : union v w ≡ v). inl (ap (λ x. false ∷ x) e))
    (λ (h : unset (union v w) < unset v). inr (omega arith))
    (union_grows v w)
union_grows (false ∷ v) (true ∷ w) =
    ⊎_elim
    (λ (e : union v w ≡ v). inr (omega (arith, ap unset e)))
    (λ (h : unset (union v w) < unset v). inr (omega arith))
    (union_grows v w)

-- each bit of a union
pub bit_of_union : (v w : List Bool) → length w ≡ length v → (i : ℕ) → bit (union v w) i ≡ (bit v i || bit w i)
bit_of_union [] [] e i = refl
bit_of_union [] (b ∷ w) e i = absurd (omega arith)
bit_of_union (a ∷ v) [] e i = absurd (omega arith)
bit_of_union (a ∷ v) (b ∷ w) e zero = refl
bit_of_union (a ∷ v) (b ∷ w) e (suc i) = bit_of_union v w (omega arith) i
