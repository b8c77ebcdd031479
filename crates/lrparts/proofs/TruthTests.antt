-- What a test says by its answer.
use Rattle.std.proofs.Common.{◌≡◌, ℕ, ◌+◌, ◌<◌, ◌≤◌, leb, leb→le, le→leb, T, Bool, true, false, refl, sym, ◌∙◌, subst, arith}
use Rattle.std.specs.Prelude.{IsTrue, ◌↔◌}
use Rattle.std.proofs.lemmas.Bool.{false≢true}

-- a test that answers true of what holds, and false of what does not
pub true_if : {A : Type 0} → A → IsTrue true ↔ A
true_if a = (λ _. a, λ _. refl)

pub false_if : {A : Type 0} → (A → ⊥) → IsTrue false ↔ A
false_if never = (λ e. absurd (false≢true e), λ a. absurd (never a))

-- what a test says
pub holds_if : {A : Type 0} {b : Bool} → IsTrue b ↔ A → b ≡ true → A
holds_if h e = h.0 e

pub fails_if : {A : Type 0} {b : Bool} → IsTrue b ↔ A → b ≡ false → A → ⊥
fails_if h e a = false≢true (sym e ∙ h.1 a)

pub same_test : {b : Bool} {A B : Type 0} → (A → B) → (B → A) → IsTrue b ↔ A → IsTrue b ↔ B
same_test there back h = (λ e. there (h.0 e), λ x. h.1 (back x))

-- a test of one value is a test of an equal one
pub test_along : {X : Type 0} (P : X → Type 0) {b : Bool} {x y : X} → x ≡ y → IsTrue b ↔ P x → IsTrue b ↔ P y
test_along P {b} e h = subst (λ z. IsTrue b ↔ P z) e h

-- a test of two numbers
at_most : (a b : ℕ) → leb a b ≡ true → a ≤ b
at_most a b e = leb→le a b (subst T (sym e) tt)

true_from : (b : Bool) → T b → b ≡ true
true_from true t = refl
true_from false t = absurd t

is_at_most : (a b : ℕ) → a ≤ b → leb a b ≡ true
is_at_most a b h = true_from (leb a b) (le→leb a b h)

-- the same, where the second is another's equal: with one more it is above the first
pub below_more : (most len n : ℕ) → len ≡ n → IsTrue (leb most len) ↔ (most < n + 1)
below_more most len n same =
    (λ e. let h = at_most most len e in omega (arith, h), λ h. is_at_most most len (omega (arith, h)))

-- the same of the first
pub not_above : (len start n : ℕ) → len ≡ n → IsTrue (leb len start) ↔ (n ≤ start)
not_above len start n same =
    (λ e. let h = at_most len start e in omega (arith, h), λ h. is_at_most len start (omega (arith, h)))
