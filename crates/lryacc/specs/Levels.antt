-- the precedence lines of a file, and the precedences of its tokens
use Rattle.std.specs.Prelude.{◌≡◌, ℕ, zero, suc, ◌*◌, Bool, List, [], ◌∷◌, ◌++◌, Option, None, Some, length, slice_get}
use Rattle.std.specs.BTreeMap.{get}
use Rattle.std.specs.Option.{option_map, option_and_then, option_or}
use Rattle.std.specs.Ordering.{nat_cmp}
use Rattle.lrgrammar.specs.declared.grammar.AssocKind.{AssocKind}
use Rattle.lrgrammar.specs.declared.grammar.AssocKind.TheVariants as group
use Rattle.lrgrammar.specs.declared.grammar.Precedence.{Precedence}
use Rattle.lryacc.specs.declared.contents.LevelKind.{LevelKind}
use Rattle.lryacc.specs.declared.contents.LevelKind.TheVariants as line
use Rattle.lryacc.specs.declared.contents.Statement.{Statement}
use Rattle.lryacc.specs.declared.contents.Statement.TheVariants as says
use Rattle.lryacc.specs.declared.lexemes.Lexeme.{Lexeme}
use Rattle.lryacc.specs.declared.meaning.Meaning.{Meaning}

-- the precedence line in which a symbol stands by this name, counted from 1
abbrev pub own_line : Meaning → ℕ → Option ℕ
own_line meaning number = option_map (λ place. place.0) (get nat_cmp meaning.lines number)

-- the precedence line of a symbol, by either of its names
abbrev pub line_of : Meaning → ℕ → Option ℕ
line_of meaning number =
    option_or (own_line meaning number)
    (option_and_then (own_line meaning) (get nat_cmp meaning.symbols.partners number))

-- the precedence lines that declarations begin
abbrev pub levels_of : List Statement → List LevelKind
levels_of [] = []
levels_of (says.Level kind ∷ statements) = kind ∷ levels_of statements
levels_of (_ ∷ statements) = levels_of statements

-- whether bodies without `%prec` have a precedence behind some declarations, if they had one before these: the last one that says
-- so decides
abbrev pub has_default_after : Bool → List Statement → Bool
has_default_after before [] = before
has_default_after before (says.DefaultPrecedence is_on ∷ statements) =
    has_default_after is_on statements
has_default_after before (_ ∷ statements) = has_default_after before statements

-- a declaration puts the symbol of that number into a precedence line, the last one that begins before it
pub record IsInLine (statements : List Statement) (number_of : Lexeme → Option ℕ)
    (number line : ℕ) : Type 0 where
  pub before : List Statement
  pub symbol : Lexeme
  pub behind : List Statement
  pub is : statements ≡ before ++ says.InLevel symbol ∷ behind
  pub same : number_of symbol ≡ Some number
  pub line_is : line ≡ length (levels_of before)

-- how the tokens of a line group: those of a `%precedence` line settle nothing among themselves
abbrev pub group_of : LevelKind → AssocKind
group_of line.Left = group.Left
group_of line.Right = group.Right
group_of line.Nonassoc = group.Nonassoc
group_of line.Precedence = group.Nonassoc

-- the kind of the line of a number, counted from 1
abbrev pub kind_of_line : List LevelKind → ℕ → Option LevelKind
kind_of_line lines zero = None
kind_of_line lines (suc before) = slice_get lines before

-- the precedence of the tokens of a line: levels are twice as many as lines, so that there is one below each
abbrev pub precedence_in : ℕ → LevelKind → Precedence
precedence_in line kind = record { level = line * 2; kind = group_of kind }

-- the precedence of tokens that stand in a line; those of no line have none
abbrev pub precedence_of : List LevelKind → Option ℕ → Option Precedence
precedence_of lines None = None
precedence_of lines (Some line) = option_map (precedence_in line) (kind_of_line lines line)
