-- errors that a call passes on
use Rattle.std.proofs.Common.{◌≡◌, ap, Result, Ok, Err}
use Rattle.std.specs.Prelude.{OnOk}
use Rattle.std.specs.Result.{IsErrAnd}
use Rattle.lrlines.specs.declared.errors.LineError.{LineError}
use Rattle.lrlines.specs.declared.errors.LineError.TheVariants.{Read, Write, Memory}

-- a success is no error
pub not_an_error : {T E : Type 0} (x : T) (e : E) → Ok x ≡ Err e → ⊥
not_an_error x e h = cc

-- an error that is passed on is no success, so nothing is said of what a success does
pub nothing_said : {T E : Type 0} (P : Type 0) (Q : E → Type 0) (r : Result T E)
    → IsErrAnd r Q → OnOk r P
nothing_said P Q (Ok x) h = absurd h
nothing_said P Q (Err e) h = tt

-- an error that is passed on as it is
pub passed_on : {T E : Type 0} (r : Result T E) (e : E) → IsErrAnd r (λ x. x ≡ e) → r ≡ Err e
passed_on (Ok x) e h = absurd h
passed_on (Err x) e h = ap (λ y. Err y) h

-- an error by want of memory is none of a reader
pub memory_not_read : {T : Type 0} (r : Result T LineError)
    → IsErrAnd r (λ x. x ≡ Memory) → r ≡ Err Read → ⊥
memory_not_read (Ok x) h e = absurd h
memory_not_read (Err x) h e = cc

-- and none of a writer
pub memory_not_write : {T : Type 0} (r : Result T LineError)
    → IsErrAnd r (λ x. x ≡ Memory) → r ≡ Err Write → ⊥
memory_not_write (Ok x) h e = absurd h
memory_not_write (Err x) h e = cc

-- an error of a reader is none of a writer, and no want of memory
pub read_not_write : {T : Type 0} → ◌≡◌ {A = Result T LineError} (Err Read) (Err Write) → ⊥
read_not_write e = cc

pub read_not_memory : {T : Type 0} → ◌≡◌ {A = Result T LineError} (Err Read) (Err Memory) → ⊥
read_not_memory e = cc
