-- how many conflicts a file expects
use Rattle.std.specs.Prelude.{◌≡◌, ℕ, Bool, true, false, List, [], ◌∷◌, Option, None, if◌then◌else◌}
use Rattle.std.specs.List.{last_or}
use Rattle.std.specs.Option.{option_map}
use Rattle.lryacc.specs.declared.contents.Statement.{Statement}
use Rattle.lryacc.specs.declared.contents.Statement.TheVariants as says
use Rattle.lryacc.specs.declared.dialects.Dialect.{Dialect}
use Rattle.lryacc.specs.declared.dialects.Dialect.TheVariants.{Bison, Grmtools}
use Rattle.lryacc.specs.declared.lexemes.Lexeme.{Lexeme}
use Rattle.lryacc.specs.declared.meaning.Expected.{Expected}
use Rattle.lryacc.specs.EndTokens.{written_number}
use Rattle.lryacc.specs.NamedSymbols.{text_at}

-- the lexemes that stand behind `%expect`, in the order of the file
abbrev pub shift_lexemes : List Statement → List Lexeme
shift_lexemes [] = []
shift_lexemes (says.ExpectShiftReduce number ∷ statements) = number ∷ shift_lexemes statements
shift_lexemes (_ ∷ statements) = shift_lexemes statements

-- those behind `%expect-rr`
abbrev pub reduce_lexemes : List Statement → List Lexeme
reduce_lexemes [] = []
reduce_lexemes (says.ExpectReduceReduce number ∷ statements) = number ∷ reduce_lexemes statements
reduce_lexemes (_ ∷ statements) = reduce_lexemes statements

-- the number that the last of some lexemes is, if there is one
abbrev pub last_number : List ℕ → List Lexeme → Option ℕ
last_number text lexemes =
    option_map (λ number. written_number (text_at text number.span)) (last_or None lexemes)

-- whether a declaration says that the parser is a generalized one
abbrev pub is_generalized : List Statement → Bool
is_generalized [] = false
is_generalized (says.Glr ∷ statements) = true
is_generalized (_ ∷ statements) = is_generalized statements

-- whether reduce/reduce conflicts can be expected: for Bison by generalized parsers alone
abbrev pub can_expect_reductions : Dialect → List Statement → Bool
can_expect_reductions Bison statements = is_generalized statements
can_expect_reductions Grmtools statements = true

-- the numbers of conflicts that declarations expect: those that they say last
pub record AreExpected (text : List ℕ) (dialect : Dialect) (statements : List Statement)
    (expected : Expected) : Type 0 where
  pub shift_reduce : expected.shift_reduce ≡ last_number text (shift_lexemes statements)
  pub reduce_reduce : expected.reduce_reduce
      ≡ (if can_expect_reductions dialect statements
      then last_number text (reduce_lexemes statements) else None)
