-- values in boxes, and the first of two values
use Rattle.std.proofs.Common.{◌≡◌, Option, None, Some, subst, sym}
use Rattle.std.specs.Prelude.{IfSome}
use Rattle.std.specs.Option.{option_map, option_or}
use Rattle.std.proofs.lemmas.Option.{same_Some}

-- what holds of a value, if there is one, holds of the one in the box
pub boxed_so :
    {B T : Type 0} (value : B → T) (P : T → Type 0) (o : Option B) (x : Option T)
    → option_map value o ≡ x → IfSome x P → IfSome o (λ b. P (value b))
boxed_so value P (Some b) (Some v) e h = subst P (sym (same_Some (value b) v e)) h
boxed_so value P (Some b) None e h = absurd cc
boxed_so value P None x e h = tt

-- what holds of either, if it is there, holds of the first of both
pub either_so : {A : Type 0} (P : A → Type 0) (a b : Option A) → IfSome a P → IfSome b P → IfSome (option_or a b) P
either_so P None b p q = q
either_so P (Some x) b p q = p
