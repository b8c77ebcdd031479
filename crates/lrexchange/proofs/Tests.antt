-- what tests tell
use Rattle.std.proofs.Common.{◌≡◌, Bool, true, false, refl, sym, ◌∙◌}
use Rattle.std.specs.Prelude.{IsTrue, ◌↔◌}

-- a test that fails
pub test_fails : {A : Type 0} (b : Bool) → (IsTrue b ↔ A) → b ≡ false → ¬ A
test_fails b k e a = let t : b ≡ true = k.1 a in let no : false ≡ true = sym e ∙ t in absurd cc

-- what holds is answered by true, and what doesn't by false
pub so : {A : Type 0} → A → IsTrue true ↔ A
so a = (λ t. a, λ b. refl)

pub not_so : {A : Type 0} → ¬ A → IsTrue false ↔ A
not_so n = (λ t. let no : false ≡ true = t in absurd cc, λ a. absurd (n a))
