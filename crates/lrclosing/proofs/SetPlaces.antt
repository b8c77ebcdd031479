-- the set places of a range, one after another
use Rattle.std.proofs.Common.{◌≡◌, ℕ, ◌<◌, ◌≤◌, Bool, List, [], ◌∷◌, Option, None, Some, length, refl, arith, inl, inr}
use Rattle.std.specs.Prelude.{IsTrue, IfSome, IfNone, Contains, ◌↔◌}
use Rattle.std.specs.Iterator.{YieldsFirst}
use Rattle.lrspec.proofs.grammars.ListMembers.{Among}
use Rattle.lrbits.specs.Bits.{bit}
use Rattle.lrclosing.specs.Visits.{HasNone}
use Rattle.lrclosing.proofs.MarkedProductions.{below_of_bit}

-- the list has the set places from `a` to below `b`
abbrev pub AreSetPlaces : List Bool → ℕ → ℕ → List ℕ → Type 0
AreSetPlaces v a b xs = (i : ℕ) → Contains xs i ↔ ((a ≤ i) × (i < b) × IsTrue (bit v i))

pub first_set : (v : List Bool) (a b i : ℕ) (xs more : List ℕ) → AreSetPlaces v a b xs → xs ≡ i ∷ more → IsTrue (bit v i)
first_set v a b i xs more m e = let h : Contains xs i = rw e (0, omega arith, refl) in ((m i).0 h).2

pub next_set_place :
    (v : List Bool) (a b : ℕ) (xs more : List ℕ) (o : Option ℕ) → AreSetPlaces v a b xs → YieldsFirst (λ (s : List ℕ). s) xs o more → IfSome o (λ i. IsTrue (bit v i))
next_set_place v a b xs more None m y = tt
next_set_place v a b xs more (Some i) m y = first_set v a b i xs more m y

-- where there are none, none are set
no_place : (v : List Bool) (a b i : ℕ) (xs : List ℕ) → AreSetPlaces v a b xs → xs ≡ [] → IsTrue (bit v i) → a ≤ i → i < b → ⊥
no_place v a b i xs m e h l u =
    let k : Contains xs i = (m i).1 (l, u, h) in
    let n : k.0 < length xs = k.1 in
    let z : k.0 < 0 = rw e at n in
    absurd (omega (arith, z))

-- neither from a place on nor below it
pub none_set_place :
    (v : List Bool) (from end : ℕ) (xs ys more : List ℕ) (o : Option ℕ) → AreSetPlaces v from end xs → xs ≡ [] → AreSetPlaces v 0 from ys
    → YieldsFirst (λ (s : List ℕ). s) ys o more → end ≡ length v → IfNone o (HasNone v)
none_set_place v from end xs ys more (Some i) m e k y l = tt
none_set_place v from end xs ys more None m e k y l = λ i h.
    let within = below_of_bit v i h in
    let above : from ≤ i → ⊥ = λ a. no_place v from end i xs m e h a (omega (arith, within, l)) in
    let below : i < from → ⊥ = λ b. no_place v 0 from i ys k y.0 h (omega arith) b in
    omega (arith, above, below)

-- what holds of the places that are left holds of the first one, and of the rest
pub first_among : (P : ℕ → Type 0) (t : ℕ) (ts us : List ℕ) → ts ≡ t ∷ us → ((u : ℕ) → Among u ts → P u) → P t
first_among P t ts us e h = h t (rw e (inl refl))

pub rest_among : (P : ℕ → Type 0) (t : ℕ) (ts us : List ℕ) → ts ≡ t ∷ us → ((u : ℕ) → Among u ts → P u) → (u : ℕ) → Among u us → P u
rest_among P t ts us e h u i = h u (rw e (inr i))
