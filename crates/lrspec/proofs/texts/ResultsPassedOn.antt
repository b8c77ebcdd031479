-- what holds of a `Result` that a function passes on
use Rattle.std.proofs.Common.{◌≡◌, Result, Ok, Err, sym, subst}
use Rattle.std.specs.Prelude.{IfOk, IfErr}
use Rattle.std.specs.Result.{IsErrAnd}

-- an error that is passed on
pub error_passed : {T E : Type 0} (P : E → Type 0) (r : Result T E) (e : E) → IsErrAnd r (λ x. x ≡ e) → P e → IfErr r P
error_passed P (Ok x) e same h = tt
error_passed P (Err x) e same h = subst P (sym same) h

-- what holds of each answer
pub ok_passed : {T E : Type 0} (P Q : T → Type 0) (r : Result T E) → ((x : T) → P x → Q x) → IfOk r P → IfOk r Q
ok_passed P Q (Ok x) f h = f x h
ok_passed P Q (Err x) f h = tt

-- what holds of each error
pub err_passed : {T E : Type 0} (P Q : E → Type 0) (r : Result T E) → ((e : E) → P e → Q e) → IfErr r P → IfErr r Q
err_passed P Q (Ok x) f h = tt
err_passed P Q (Err x) f h = f x h
