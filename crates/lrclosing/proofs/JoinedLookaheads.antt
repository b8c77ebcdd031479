-- the bits of lookaheads that are joined
use Rattle.std.proofs.Common.{◌≡◌, ℕ, Bool, true, false, List, Option, None, Some, length, refl, sym, ◌∙◌, ◌⊎◌, inl, inr}
use Rattle.std.specs.Prelude.{◌||◌, IsTrue}
use Rattle.std.specs.Option.{IsSome, IsSomeAnd}
use Rattle.lrbits.specs.Bits.{bit}
use Rattle.lrbits.proofs.Unions.{length-union}
use Rattle.lrbits.proofs.Unions.{bit_of_union}
use Rattle.lrclosing.specs.ItemsOf.{joined}

pub or_cases : (a b : Bool) → IsTrue (a || b) → IsTrue a ⊎ IsTrue b
or_cases true b h = inl refl
or_cases false b h = inr h

pub or_left : (a b : Bool) → IsTrue a → IsTrue (a || b)
or_left true b h = refl
or_left false b h = cc

pub or_right : (a b : Bool) → IsTrue b → IsTrue (a || b)
or_right true b h = refl
or_right false b h = h

-- no item is there where none is found
pub none_there : (o : Option (List Bool)) → o ≡ None → IsSome o → ⊥
none_there None e h = cc
none_there (Some v) e h = cc

-- what is there
pub some_of : {X : Type 0} (o : Option X) → IsSome o → (x : X) × (o ≡ Some x)
some_of None h = cc
some_of (Some x) h = (x, refl)

-- a bit that was set is set
pub joined_old : (o : Option (List Bool)) (w : List Bool) (t : ℕ) → ((v : List Bool) → o ≡ Some v → length v ≡ length w) → IsSomeAnd o (λ v. IsTrue (bit v t)) → IsTrue (bit (joined o w) t)
joined_old None w t f h = absurd h
joined_old (Some v) w t f h = rw (bit_of_union v w (sym (f v refl)) t) (or_left (bit v t) (bit w t) h)

-- and so is one of those that are put in
pub joined_more : (o : Option (List Bool)) (w : List Bool) (t : ℕ) → ((v : List Bool) → o ≡ Some v → length v ≡ length w) → IsTrue (bit w t) → IsTrue (bit (joined o w) t)
joined_more None w t f h = h
joined_more (Some v) w t f h = rw (bit_of_union v w (sym (f v refl)) t) (or_right (bit v t) (bit w t) h)

-- and no other
pub joined_from : (o : Option (List Bool)) (w : List Bool) (t : ℕ) → ((v : List Bool) → o ≡ Some v → length v ≡ length w) → IsTrue (bit (joined o w) t) → IsSomeAnd o (λ v. IsTrue (bit v t)) ⊎ IsTrue (bit w t)
joined_from None w t f h = inr h
joined_from (Some v) w t f h = or_cases (bit v t) (bit w t) (rw (bit_of_union v w (sym (f v refl)) t) at h)

pub length_joined : (o : Option (List Bool)) (w : List Bool) → ((v : List Bool) → o ≡ Some v → length v ≡ length w) → length (joined o w) ≡ length w
length_joined None w f = refl
length_joined (Some v) w f = length-union v w ∙ f v refl
