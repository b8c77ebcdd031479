-- what holds of items holds of what was made of them
use Rattle.std.proofs.Common.{◌≡◌, Result, Ok, Err, sym, subst}
use Rattle.std.specs.Prelude.{IfOk}
use Rattle.lrspec.specs.grammars.ItemSets.{Items}

pub of_made : {X E : Type 0} (P : Items → Type 0) (shows : X → Items) (a : Items) (r : Result X E) → IfOk r (λ s. shows s ≡ a) → P a → IfOk r (λ s. P (shows s))
of_made P shows a (Ok s) e h = subst P (sym e) h
of_made P shows a (Err f) e h = tt
