-- all lexemes of a text
use Rattle.std.specs.Prelude.{◌≡◌, ℕ, ◌+◌, ◌⊎◌, if◌then◌else◌, Bool, true, false, List, [], ◌∷◌, ◌++◌, length}
use Rattle.lryacc.specs.declared.dialects.Dialect.{Dialect}
use Rattle.lryacc.specs.declared.lexemes.Lexeme.{Lexeme}
use Rattle.lryacc.specs.declared.lexemes.LexemeKind.{LexemeKind}
use Rattle.lryacc.specs.declared.lexemes.LexemeKind.TheVariants as kind
use Rattle.lryacc.specs.Gaps.{IsGap}
use Rattle.lryacc.specs.Lexemes.{AreInOrder, follow_rule, with_rules}

-- whether a lexeme is a `%%`
abbrev pub is_separator : LexemeKind → Bool
is_separator kind.Separator = true
is_separator _ = false

-- how many there are
abbrev pub separators : List Lexeme → ℕ
separators [] = 0
separators (lexeme ∷ lexemes) =
    (if is_separator lexeme.kind then 1 else 0) + separators lexemes

-- the last lexeme is the second `%%`
pub record EndWithSecond (lexemes : List Lexeme) : Type 0 where
  pub front : List Lexeme
  pub mark : Lexeme
  pub are : lexemes ≡ front ++ mark ∷ []
  pub is : is_separator mark.kind ≡ true
  pub one : separators front ≡ 1

-- all lexemes of a text in their order: only gaps stand between them and up to its end, or else up to the second `%%`; names are
-- noted as those of rules
pub record AreAllLexemesOf (text : List ℕ) (dialect : Dialect) (lexemes : List Lexeme)
    : Type 0 where
  pub bare : List Lexeme
  pub last : ℕ
  pub order : AreInOrder (IsGap dialect text) text dialect 0 bare last
  pub ends : IsGap dialect text last (length text) ⊎ EndWithSecond bare
  pub named : lexemes ≡ with_rules follow_rule bare
