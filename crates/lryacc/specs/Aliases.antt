-- which other names of symbols are heeded
use Rattle.std.specs.Prelude.{◌≡◌, ◌≢◌, ℕ, ◌<◌, ◌⊎◌, ◌++◌, List, None, Some, Contains, codes, vec_len}
use Rattle.lryacc.specs.declared.contents.Statement.{Statement}
use Rattle.lryacc.specs.declared.contents.Statement.TheVariants as says
use Rattle.lryacc.specs.declared.dialects.Dialect.{Dialect}
use Rattle.lryacc.specs.declared.dialects.Dialect.TheVariants.{Bison, Grmtools}
use Rattle.lryacc.specs.declared.lexemes.Lexeme.{Lexeme}
use Rattle.lryacc.specs.declared.meaning.Meaning.{Meaning}
use Rattle.lryacc.specs.declared.symbols.Symbols.{Symbols}
use Rattle.lryacc.specs.EndTokens.{for_bison}
use Rattle.lryacc.specs.NamedSymbols.{Name, Names, called, number_in, number_of, partner_in}

-- ---- of a file

-- a symbol has another name than a lexeme is
pub record HasOtherName (names : Names) (lexeme : Lexeme) : Type 0 where
  pub other : Lexeme
  pub same : names.number other ≡ names.number lexeme
  pub apart : called names.text names.dialect other ≢ called names.text names.dialect lexeme

-- a symbol of Bison's own, which has no other name
abbrev pub HasNoOther : Dialect → Name → Type 0
HasNoOther Bison name =
    (name ≡ Name.word (codes "error")) ⊎ (name ≡ Name.word (codes "YYUNDEF"))
HasNoOther Grmtools name = ⊥

-- a declaration of another name is heeded: both are one symbol, unless either has another name already, or the symbol can have none
pub data IsHeeded (names : Names) (symbol alias : Lexeme) : Type 0 where
  one : names.number symbol ≡ names.number alias → IsHeeded names symbol alias
  symbol_has : HasOtherName names symbol → IsHeeded names symbol alias
  alias_has : HasOtherName names alias → IsHeeded names symbol alias
  has_none : HasNoOther names.dialect (called names.text names.dialect symbol)
      → IsHeeded names symbol alias

-- all declarations of other names are
abbrev pub AreHeeded : Names → Type 0
AreHeeded names =
    (symbol alias : Lexeme) (number other : ℕ)
    → Contains names.statements (says.Alias symbol alias)
    → names.number symbol ≡ Some number → names.number alias ≡ Some other
    → IsHeeded names symbol alias

-- ---- while declarations are taken in

-- a name has another one beside it, or is one of Bison's own
pub data HasText (symbols : Symbols) (number : ℕ) : Type 0 where
  other : (name : ℕ) → partner_in symbols number ≡ Some name → HasText symbols number
  is_error : for_bison symbols.dialect (number_in symbols (Name.word (codes "error"))) ≡ Some number
      → HasText symbols number
  is_undefined :
      for_bison symbols.dialect (number_in symbols (Name.word (codes "YYUNDEF"))) ≡ Some number
      → HasText symbols number

-- two names are one, or either has another one, or the first is one of Bison's own
pub data IsSettled (symbols : Symbols) (number other : ℕ) : Type 0 where
  same : number ≡ other → IsSettled symbols number other
  first_has : HasText symbols number → IsSettled symbols number other
  second_has : (name : ℕ) → partner_in symbols other ≡ Some name → IsSettled symbols number other

-- two names neither of which has another one
pub record AreFree (symbols : Symbols) (number other : ℕ) : Type 0 where
  pub apart : number ≢ other
  pub first : partner_in symbols number ≡ None
  pub second : partner_in symbols other ≡ None

-- each of some declarations of other names is settled, or a fault was told
abbrev pub AreSettled : List Statement → Meaning → Type 0
AreSettled statements meaning =
    (symbol alias : Lexeme) (number other : ℕ) → Contains statements (says.Alias symbol alias)
    → number_of meaning.symbols symbol ≡ Some number
    → number_of meaning.symbols alias ≡ Some other
    → IsSettled meaning.symbols number other ⊎ (0 < vec_len meaning.faults)

-- more declarations are taken in
pub record TakesAliases (statements : List Statement) (old new : Meaning) : Type 0 where
  pub settled : (so_far : List Statement) → AreSettled so_far old
      → AreSettled (so_far ++ statements) new
