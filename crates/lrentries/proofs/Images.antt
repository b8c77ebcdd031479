-- values and their images
use Rattle.std.proofs.Common.{◌≡◌, false, Option, None, Some}
use Rattle.std.specs.Prelude.{is_some}
use Rattle.std.specs.Option.{option_map}

-- without an image there is no value
pub no_image : {A B : Type 0} (f : A → B) (o : Option A) (e : Option B) → option_map f o ≡ e → is_some o ≡ false → e ≡ None
no_image f None e image none = cc
no_image f (Some a) e image none = absurd (cc)
