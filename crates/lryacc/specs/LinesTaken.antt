-- which precedence lines symbols stand in, while declarations are taken in
use Rattle.std.specs.Prelude.{◌≡◌, ℕ, ◌⊎◌, ◌++◌, true, List, [], ◌∷◌, Some, Contains, length}
use Rattle.lryacc.specs.declared.contents.LevelKind.{LevelKind}
use Rattle.lryacc.specs.declared.contents.Statement.{Statement}
use Rattle.lryacc.specs.declared.contents.Statement.TheVariants as says
use Rattle.lryacc.specs.declared.lexemes.Lexeme.{Lexeme}
use Rattle.lryacc.specs.declared.meaning.Meaning.{Meaning}
use Rattle.lryacc.specs.Levels.{IsInLine, has_default_after, levels_of, own_line}
use Rattle.lryacc.specs.NamedSymbols.{number_of}

-- a symbol stands in a line by this name
abbrev pub StandsInLine : Meaning → ℕ → Type 0
StandsInLine meaning number = (line : ℕ) × (own_line meaning number ≡ Some line)

-- the lines are those that some declarations begin, a symbol stands in one by a name where one of them puts it there, and bodies
-- without `%prec` have a precedence where they say so
pub record HasLines (statements : List Statement) (meaning : Meaning) : Type 0 where
  pub levels : meaning.levels.items ≡ levels_of statements
  pub has_default : meaning.has_default_precedence ≡ has_default_after true statements
  pub given : (number line : ℕ) → own_line meaning number ≡ Some line
      → IsInLine statements (number_of meaning.symbols) number line
  pub some : (number : ℕ) (symbol : Lexeme) → Contains statements (says.InLevel symbol)
      → number_of meaning.symbols symbol ≡ Some number → StandsInLine meaning number

-- more declarations are taken in
pub record TakesLines (statements : List Statement) (old new : Meaning) : Type 0 where
  pub lines : (so_far : List Statement) → HasLines so_far old
      → HasLines (so_far ++ statements) new

-- a line begins
pub record BeginsLine (kind : LevelKind) (old new : Meaning) : Type 0 where
  pub levels : new.levels.items ≡ old.levels.items ++ kind ∷ []
  pub lines : new.lines ≡ old.lines
  pub has_default : new.has_default_precedence ≡ old.has_default_precedence

-- a symbol is put into the last line, unless it stands in one
pub record PutsInLine (symbol : Lexeme) (old new : Meaning) : Type 0 where
  pub levels : new.levels ≡ old.levels
  pub has_default : new.has_default_precedence ≡ old.has_default_precedence
  pub given : (number line : ℕ) → own_line new number ≡ Some line
      → (own_line old number ≡ Some line)
      ⊎ ((number_of old.symbols symbol ≡ Some number) × (line ≡ length old.levels.items))
  pub some : (number : ℕ) → number_of old.symbols symbol ≡ Some number → StandsInLine new number
  pub first : (number line : ℕ) → own_line old number ≡ Some line
      → own_line new number ≡ Some line
