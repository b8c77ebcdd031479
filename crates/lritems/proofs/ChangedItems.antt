-- when an item changed
use Rattle.std.proofs.Common.{◌≡◌, ◌≢◌, Bool, true, List, Option, None, Some, refl, sym, ap, ◌∙◌}
use Rattle.std.specs.Prelude.{IsTrue, ◌↔◌}

-- lookaheads changed exactly if the item did
pub some_changed : (a o : Option (List Bool)) (v w : List Bool) (b : Bool) → a ≡ Some v → o ≡ Some w → (IsTrue b ↔ (v ≢ w)) → IsTrue b ↔ (a ≢ o)
some_changed a o v w b h k c =
    (λ t e. let s : Some v ≡ Some w = sym h ∙ e ∙ k in c.0 t (cc), λ n. c.1 (λ e. n (h ∙ ap (λ x. Some x) e ∙ sym k)))

-- an item that is new changed
pub none_changed : (a o : Option (List Bool)) (v : List Bool) → a ≡ Some v → o ≡ None → IsTrue true ↔ (a ≢ o)
none_changed a o v h k = (λ t e. let s : Some v ≡ None = sym h ∙ e ∙ k in cc, λ n. refl)
