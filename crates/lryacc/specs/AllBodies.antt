-- all bodies of a file
use Rattle.std.specs.Prelude.{◌≡◌, ℕ, ◌+◌, ◌-◌, ◌<◌, ◌≤◌, true, false, List, [], ◌∷◌, ◌++◌, Some, Result, Ok, Err, IfSome, slice_get}
use Rattle.lryacc.specs.declared.contents.Alternative.{Alternative}
use Rattle.lryacc.specs.declared.dialects.Dialect.{Dialect}
use Rattle.lryacc.specs.declared.faults.Halt.{Halt}
use Rattle.lryacc.specs.declared.faults.Halt.TheVariants as halt
use Rattle.lryacc.specs.declared.lexemes.Lexeme.{Lexeme}
use Rattle.lryacc.specs.declared.lexemes.LexemeKind.TheVariants as kind
use Rattle.lryacc.specs.declared.reader.Reader.{Reader}
use Rattle.lryacc.specs.AllLexemes.{is_separator}
use Rattle.lryacc.specs.Bodies.{IsReadFrom, IsSameFile, PassesNoDelimiter, Stays, TakesKind, is_mark}

-- a place right behind the first `%%`
pub record IsBehindFirst (lexemes : List Lexeme) (at : ℕ) : Type 0 where
  pub before : ℕ
  pub next : at ≡ before + 1
  pub mark : Lexeme
  pub here : slice_get lexemes before ≡ Some mark
  pub is : is_separator mark.kind ≡ true
  pub first : (place : ℕ) → place < before
      → IfSome (slice_get lexemes place) (λ lexeme. is_separator lexeme.kind ≡ false)

-- the bodies that begin before a place among the rules, in their order
pub data AreBodiesUpTo (text : List ℕ) (lexemes : List Lexeme) (dialect : Dialect)
    : ℕ → List Alternative → Type 0 where
  -- right behind the first `%%` there are none
  begins : {at : ℕ} → IsBehindFirst lexemes at → AreBodiesUpTo text lexemes dialect at []
  -- right behind each `:` and `|` there is one more
  mark : {at : ℕ} {bodies : List Alternative} (lexeme : Lexeme) (body : Alternative)
      → AreBodiesUpTo text lexemes dialect at bodies
      → slice_get lexemes at ≡ Some lexeme → is_mark lexeme.kind ≡ true
      → IsReadFrom text lexemes dialect lexeme (at + 1) body
      → AreBodiesUpTo text lexemes dialect (at + 1) (bodies ++ body ∷ [])
  -- behind each other lexeme but a second `%%` there is none
  other : {at : ℕ} {bodies : List Alternative} → AreBodiesUpTo text lexemes dialect at bodies
      → IfSome (slice_get lexemes at) (λ lexeme.
      (is_mark lexeme.kind ≡ false) × (is_separator lexeme.kind ≡ false))
      → AreBodiesUpTo text lexemes dialect (at + 1) bodies

-- all bodies of a file, in their order: those that begin before the second `%%`, or before the end of the file
pub record AreAllBodies (text : List ℕ) (lexemes : List Lexeme) (dialect : Dialect)
    (bodies : List Alternative) : Type 0 where
  pub to : ℕ
  pub read : AreBodiesUpTo text lexemes dialect to bodies
  pub ends : IfSome (slice_get lexemes to) (λ lexeme. is_separator lexeme.kind ≡ true)

-- the bodies that the reader has are those up to a place
abbrev pub AreReadUpTo : Reader → ℕ → Type 0
AreReadUpTo reader at =
    AreBodiesUpTo reader.text.now reader.lexemes.now reader.dialect at
    reader.contents.alternatives.items

-- the reader goes over so many lexemes at least, and adds the bodies that begin there
pub record ReadsBodies (least : ℕ) (old new : Reader) : Type 0 where
  pub text : new.text.now ≡ old.text.now
  pub lexemes : new.lexemes.now ≡ old.lexemes.now
  pub dialect : new.dialect ≡ old.dialect
  pub on : least + old.at ≤ new.at
  pub read : AreReadUpTo old old.at → AreReadUpTo new new.at

-- the same, from right behind the mark of the first one
pub record ReadsAlternatives (old new : Reader) : Type 0 where
  pub text : new.text.now ≡ old.text.now
  pub lexemes : new.lexemes.now ≡ old.lexemes.now
  pub dialect : new.dialect ≡ old.dialect
  pub on : old.at ≤ new.at
  pub read : AreReadUpTo old (old.at - 1) → AreReadUpTo new new.at

-- the reader takes a `%%`
pub record TakesSeparator (old new : Reader) : Type 0 where
  pub mark : Lexeme
  pub taken : TakesKind old new kind.Separator mark

-- the reader goes over declarations and the `%%` behind them
pub record ReachesRules (old new : Reader) : Type 0 where
  pub before : Reader
  pub over : PassesNoDelimiter old before
  pub taken : TakesSeparator before new

-- the reader has all bodies of a file, if it had those up to where it was
pub record ReadsAll (old new : Reader) : Type 0 where
  pub text : new.text.now ≡ old.text.now
  pub lexemes : new.lexemes.now ≡ old.lexemes.now
  pub dialect : new.dialect ≡ old.dialect
  pub read : AreReadUpTo old old.at
      → AreAllBodies new.text.now new.lexemes.now new.dialect new.contents.alternatives.items

-- the reader goes on behind what was read, and stays where no fault stopped it
abbrev pub Settles : {T : Type 0} → Result T Halt → Reader → Reader → Type 0
Settles (Ok read) old new = Stays old new
Settles (Err halt.Fault) old new = IsSameFile old new
Settles (Err halt.Memory) old new = ⊥
