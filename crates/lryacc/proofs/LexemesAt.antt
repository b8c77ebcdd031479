-- lexemes by the bytes that they begin with
use Rattle.std.proofs.Common.{◌≡◌, ℕ, ◌+◌, ◌<◌, List, [], ◌∷◌, Ok, Err, Result, IfOk, length, slice_index, subst, sym, arith}
use Rattle.std.proofs.lemmas.Grind.{common_steps}
use Rattle.lryacc.specs.declared.faults.Fault.{Fault}
use Rattle.lryacc.specs.declared.lexemes.LexemeKind.{LexemeKind}
use Rattle.lryacc.specs.Lexemes.{IsBisonLexeme}
use Rattle.lryacc.specs.Words.{Are}

-- the byte at a place
pub one-byte : (text : List ℕ) (at byte : ℕ) → at < length text → slice_index text at ≡ byte
    → Are text at (at + 1) (byte ∷ [])
one-byte text at byte below is = grind (arith, common_steps)

-- those at two places
pub two-bytes : (text : List ℕ) (at first second : ℕ) → at + 1 < length text → slice_index text at ≡ first
    → slice_index text (at + 1) ≡ second → Are text at (at + 2) (first ∷ second ∷ [])
two-bytes text at first second below is next = grind (arith, common_steps)

-- what is found is a lexeme of a kind
pub of-kind : (text : List ℕ) (from : ℕ) (kind : LexemeKind) (found : Result (LexemeKind × ℕ) Fault)
    (Is : ℕ → Type 0) → IfOk found (λ it. it.0 ≡ kind) → IfOk found (λ it. Is it.1)
    → ((end : ℕ) → Is end → IsBisonLexeme kind text from end)
    → IfOk found (λ it. IsBisonLexeme it.0 text from it.1)
of-kind text from kind (Err fault) Is same is lexeme = tt
of-kind text from kind (Ok it) Is same is lexeme =
    subst (λ kind. IsBisonLexeme kind text from it.1) (sym same) (lexeme it.1 is)
