-- which symbol of a file is its end token
use Rattle.std.specs.Prelude.{◌≡◌, ℕ, ◌<◌, ◌≤◌, ◌⊎◌, ◌||◌, All, Bool, List, Option, Some, None, Contains, if◌then◌else◌, codes, length, slice_range, vec_len}
use Rattle.std.specs.Char.{IsAsciiDigit}
use Rattle.std.specs.Str.{bytes_eq}
use Rattle.std.specs.Str.Parse.{digits_value}
use Rattle.lryacc.specs.declared.contents.Statement.{Statement}
use Rattle.lryacc.specs.declared.contents.Statement.TheVariants as says
use Rattle.lryacc.specs.declared.dialects.Dialect.{Dialect}
use Rattle.lryacc.specs.declared.dialects.Dialect.TheVariants.{Bison, Grmtools}
use Rattle.lryacc.specs.declared.lexemes.Lexeme.{Lexeme}
use Rattle.lryacc.specs.declared.meaning.Meaning.{Meaning}
use Rattle.lryacc.specs.declared.symbols.Symbols.{Symbols}
use Rattle.lryacc.specs.NamedSymbols.{KeepsSymbols, Name, Names, called, number_in, number_of, text_at}

-- whether a number is written in hexadecimal digits, which stand behind `0x`
abbrev pub is_hexadecimal : List ℕ → Bool
is_hexadecimal bytes =
    bytes_eq (slice_range bytes 0 2) (codes "0x") || bytes_eq (slice_range bytes 0 2) (codes "0X")

-- the number that is written so
abbrev pub written_number : List ℕ → ℕ
written_number bytes =
    if is_hexadecimal bytes then digits_value 16 (slice_range bytes 2 (length bytes))
    else digits_value 10 bytes

-- decimal digits mean a number that is at most the greatest `i32`
pub record IsSmallDecimal (bytes : List ℕ) : Type 0 where
  pub digits : All IsAsciiDigit bytes
  pub small : digits_value 10 bytes ≤ 2147483647

-- a declaration gives the symbol of that number the value 0
pub record IsGivenZero (text : List ℕ) (statements : List Statement)
    (number_of : Lexeme → Option ℕ) (number : ℕ) : Type 0 where
  pub symbol : Lexeme
  pub value : Lexeme
  pub is : Contains statements (says.Code symbol value)
  pub zero : written_number (text_at text value.span) ≡ 0
  pub same : number_of symbol ≡ Some number

-- ---- the end token of a file

-- a declaration of a file gives the symbol of that number the value 0
abbrev pub IsGivenZeroIn : Names → ℕ → Type 0
IsGivenZeroIn names number = IsGivenZero names.text names.statements names.number number

-- the end token is a symbol that a declaration gives the value 0
pub record IsGivenEnd (names : Names) : Type 0 where
  pub end : ℕ
  pub is : names.end ≡ Some end
  pub zero : IsGivenZeroIn names end

-- the end token is the symbol that is called `YYEOF`, if there is one; grmtools has none
abbrev pub IsEndByName : Dialect → Names → Type 0
IsEndByName Bison names =
    (lexeme : Lexeme) → called names.text names.dialect lexeme ≡ Name.word (codes "YYEOF")
    → names.number lexeme ≡ names.end
IsEndByName Grmtools names = names.end ≡ None

-- the end token is a symbol that a declaration gives the value 0, if one does so, or else one by its name, if any
pub record HasEnd (names : Names) : Type 0 where
  pub is : IsGivenEnd names ⊎ IsEndByName names.dialect names
  pub given : (number : ℕ) → IsGivenZeroIn names number → IsGivenEnd names

-- ---- the same while declarations are taken in

-- the number of a name that has a meaning of its own for Bison
abbrev pub for_bison : Dialect → Option ℕ → Option ℕ
for_bison Bison number = number
for_bison Grmtools number = None

-- the number of the symbol that is the end token by its name
abbrev pub end_by_name : Symbols → Option ℕ
end_by_name symbols =
    for_bison symbols.dialect (number_in symbols (Name.word (codes "YYEOF")))

-- names and the end token are the same, and no fault is taken back
pub record KeepsEnd (old new : Meaning) : Type 0 where
  pub symbols : KeepsSymbols old.symbols new.symbols
  pub end : new.end ≡ old.end
  pub faults : vec_len old.faults ≤ vec_len new.faults

-- precedence lines are the same, and so is which symbols stand in them, and whether bodies without `%prec` have a precedence
pub record KeepsLines (old new : Meaning) : Type 0 where
  pub has_default : new.has_default_precedence ≡ old.has_default_precedence
  pub levels : new.levels ≡ old.levels
  pub lines : new.lines ≡ old.lines

-- what is known of expected conflicts is the same
pub record KeepsExpected (old new : Meaning) : Type 0 where
  pub expected : new.expected ≡ old.expected
  pub reductions : new.expected_reductions ≡ old.expected_reductions
  pub generalized : new.is_glr ≡ old.is_glr

-- so are the start symbols
pub record KeepsSaid (old new : Meaning) : Type 0 where
  pub expected : KeepsExpected old new
  pub starts : new.starts ≡ old.starts
  pub started : new.started ≡ old.started

-- names, the end token and precedence lines are the same, and no fault is taken back
pub record KeepsTables (old new : Meaning) : Type 0 where
  pub symbols : KeepsSymbols old.symbols new.symbols
  pub end : new.end ≡ old.end
  pub faults : vec_len old.faults ≤ vec_len new.faults
  pub lines : KeepsLines old new

-- all of this is the same
pub record KeepsMeaning (old new : Meaning) : Type 0 where
  pub symbols : KeepsSymbols old.symbols new.symbols
  pub end : new.end ≡ old.end
  pub faults : vec_len old.faults ≤ vec_len new.faults
  pub lines : KeepsLines old new
  pub said : KeepsSaid old new

-- one of some declarations gives the symbol of that number the value 0
abbrev pub IsGivenZeroBy : List Statement → Meaning → ℕ → Type 0
IsGivenZeroBy statements meaning number =
    IsGivenZero meaning.symbols.text.now statements (number_of meaning.symbols) number

-- there is an end token
abbrev pub HasSome : Meaning → Type 0
HasSome meaning = (end : ℕ) × (meaning.end ≡ Some end)

-- some declarations are taken in: the end token is the one that was there, or else a symbol to which one of them gives the value 0,
-- unless that is told as a fault
pub record TakesEnd (statements : List Statement) (old new : Meaning) : Type 0 where
  pub given : (end : ℕ) → new.end ≡ Some end
      → (old.end ≡ Some end) ⊎ IsGivenZeroBy statements new end
  pub some : (number : ℕ) → IsGivenZeroBy statements new number
      → HasSome new ⊎ (0 < vec_len new.faults)
  pub first : (end : ℕ) → old.end ≡ Some end → new.end ≡ Some end
  pub faults : vec_len old.faults ≤ vec_len new.faults

-- the end token is a symbol that one of some declarations gives the value 0
pub record IsGivenEndBy (statements : List Statement) (meaning : Meaning) : Type 0 where
  pub end : ℕ
  pub is : meaning.end ≡ Some end
  pub zero : IsGivenZeroBy statements meaning end

-- the end token behind all declarations, if no fault was told
pub record HasEndBy (statements : List Statement) (meaning : Meaning) : Type 0 where
  pub is : IsGivenEndBy statements meaning ⊎ (meaning.end ≡ end_by_name meaning.symbols)
  pub given : (number : ℕ) → IsGivenZeroBy statements meaning number
      → vec_len meaning.faults ≡ 0 → IsGivenEndBy statements meaning
