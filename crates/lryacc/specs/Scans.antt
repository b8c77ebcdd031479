-- a scanner, and what it finds
use Rattle.std.specs.Prelude.{◌≡◌, ℕ, ◌+◌, ◌<◌, ◌≤◌, ◌⊎◌, length, true, if◌then◌else◌, List, [], ◌∷◌, ◌++◌, Option, Result, Ok, Err, IfNone, IfOk, IfSome}
use Rattle.lryacc.specs.declared.dialects.Dialect.{Dialect}
use Rattle.lryacc.specs.declared.faults.Fault.{Fault}
use Rattle.lryacc.specs.declared.lexemes.Lexeme.{Lexeme}
use Rattle.lryacc.specs.declared.scanner.Scanner.{Scanner}
use Rattle.lryacc.specs.declared.scanner.Scanned.{Scanned}
use Rattle.lryacc.specs.AllLexemes.{EndWithSecond, is_separator, separators}
use Rattle.lryacc.specs.Gaps.{IsGap}
use Rattle.lryacc.specs.Lexemes.{AreInOrder, AreLexemesOf, IsLexemeOf, follow_rule, go_before_colon, is_colon, with_rules}

-- a scanner goes right behind a lexeme, and has not read the second `%%`
pub record StandsBehind (old new : Scanner) (lexeme : Lexeme) : Type 0 where
  pub at : new.at ≡ lexeme.span.end
  pub before_second : old.separators < 2 → new.separators < 2

-- it stands at the end of the text, and the lexeme is the second `%%`
pub record StandsAtEnd (scanner : Scanner) (lexeme : Lexeme) : Type 0 where
  pub at : scanner.at ≡ length scanner.text.now
  pub is : is_separator lexeme.kind ≡ true
  pub second : scanner.separators ≡ 2

-- a lexeme stands in what a scanner has before it, and the scanner is behind it then
pub record IsNext (old new : Scanner) (lexeme : Lexeme) : Type 0 where
  pub from : old.at ≤ lexeme.span.start
  pub to : lexeme.span.end ≤ new.at
  pub is : IsLexemeOf old.text.now old.dialect lexeme
  pub gap : IsGap old.dialect old.text.now old.at lexeme.span.start
  pub counts : old.separators < 2
      → new.separators ≡ old.separators + separators (lexeme ∷ [])
  pub reaches : StandsBehind old new lexeme ⊎ StandsAtEnd new lexeme

-- what was found so far by a scanner of a text, and none of it was a fault
pub record AreAllScanned (text : List ℕ) (dialect : Dialect) (lexemes : List Lexeme)
    (scanner : Scanner) : Type 0 where
  pub bare : List Lexeme
  pub last : ℕ
  pub order : AreInOrder (IsGap dialect text) text dialect 0 bare last
  pub named : lexemes ≡ with_rules follow_rule bare
  pub count : separators bare ≡ scanner.separators
  pub reached : ((scanner.at ≡ last) × (scanner.separators < 2))
      ⊎ ((scanner.at ≡ length text) × EndWithSecond bare)

-- what was found so far by a scanner of a text
pub record AreScanned (text : List ℕ) (dialect : Dialect) (scanned : Scanned) (scanner : Scanner)
    : Type 0 where
  pub text_is : scanner.text.now ≡ text
  pub dialect_is : scanner.dialect ≡ dialect
  pub lexemes : AreLexemesOf text dialect scanned.lexemes.items
  pub reached : lexemes.last ≤ scanner.at
  pub all : scanned.faults.items ≡ []
      → AreAllScanned text dialect scanned.lexemes.items scanner

-- a scanner goes on, over a lexeme or a fault
pub record Scans (old : Scanner) (found : Option (Result Lexeme Fault)) (new : Scanner)
    : Type 0 where
  pub text : new.text ≡ old.text
  pub dialect : new.dialect ≡ old.dialect
  pub on : old.at ≤ new.at
  pub lexeme : IfSome found (λ found. IfOk found (IsNext old new))
  pub ends : IfNone found (IsGap old.dialect old.text.now old.at (length old.text.now))

-- what was found is added; where it is a colon, a name before it is noted as that of a rule
abbrev pub Adds : Result Lexeme Fault → Scanned → Scanned → Type 0
Adds (Ok lexeme) old new =
    (new.lexemes.items ≡ (if is_colon lexeme.kind then with_rules go_before_colon old.lexemes.items
    else old.lexemes.items) ++ lexeme ∷ []) × (new.faults.items ≡ old.faults.items)
Adds (Err fault) old new =
    (new.lexemes.items ≡ old.lexemes.items) × (new.faults.items ≡ old.faults.items ++ fault ∷ [])
