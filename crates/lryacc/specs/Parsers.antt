-- which parser a file asks for, and what its bodies say to a generalized one
use Rattle.std.specs.Prelude.{◌≡◌, ℕ, ◌+◌, Bool, true, false, List, All, Contains, Some, codes, slice_get}
use Rattle.std.specs.Str.{bytes_eq}
use Rattle.lryacc.specs.declared.dialects.Dialect.{Dialect}
use Rattle.lryacc.specs.declared.lexemes.Lexeme.{Lexeme}
use Rattle.lryacc.specs.declared.lexemes.LexemeKind.TheVariants as kind
use Rattle.lryacc.specs.declared.parsers.Dynamic.{Dynamic}
use Rattle.lryacc.specs.declared.parsers.DynamicKind.{DynamicKind}
use Rattle.lryacc.specs.declared.parsers.DynamicKind.TheVariants.{Precedence, Merger}
use Rattle.lryacc.specs.declared.parsers.Parser.{Parser}
use Rattle.lryacc.specs.declared.parsers.Parser.TheVariants.{Deterministic, Generalized}
use Rattle.lryacc.specs.AllLexemes.{AreAllLexemesOf}
use Rattle.lryacc.specs.EndTokens.{IsSmallDecimal, written_number}
use Rattle.lryacc.specs.NamedSymbols.{text_at}

-- whether a parser splits where more than one thing can be done
abbrev pub splits : Parser → Bool
splits Deterministic = false
splits (Generalized dynamics) = true

-- a directive says this with the lexeme behind it: `%dprec` by a number, and `%merge` by a tag
abbrev pub Says : List ℕ → Lexeme → Lexeme → DynamicKind → Type 0
Says text directive behind (Precedence number) =
    (bytes_eq (text_at text directive.span) (codes "%dprec") ≡ true)
    × (behind.kind ≡ kind.Number) × (number ≡ written_number (text_at text behind.span))
Says text directive behind (Merger place) =
    (bytes_eq (text_at text directive.span) (codes "%merge") ≡ true)
    × (behind.kind ≡ kind.Tag) × (place ≡ behind.span)

-- the same, where the directive stands
pub record IsDynamic (text : List ℕ) (directive behind : Lexeme) (dynamic : Dynamic) : Type 0 where
  pub place : dynamic.place ≡ directive.span
  pub says : Says text directive behind dynamic.kind

-- two lexemes that stand one behind the other say it
pub record StandsAmong (text : List ℕ) (lexemes : List Lexeme) (dynamic : Dynamic) : Type 0 where
  pub at : ℕ
  pub directive : Lexeme
  pub behind : Lexeme
  pub here : slice_get lexemes at ≡ Some directive
  pub next : slice_get lexemes (at + 1) ≡ Some behind
  pub is : IsDynamic text directive behind dynamic

-- what they say is read: a tag, and a number that is small enough
abbrev pub IsRead : List ℕ → Lexeme → DynamicKind → Type 0
IsRead text behind (Precedence number) = IsSmallDecimal (text_at text behind.span)
IsRead text behind (Merger place) = Unit {0}

-- lexemes say this and nothing else: each stands among them, and all is there that stands there and is read
pub record AreDynamicsOf (text : List ℕ) (lexemes : List Lexeme) (dynamics : List Dynamic)
    : Type 0 where
  pub among : All (StandsAmong text lexemes) dynamics
  pub each : (dynamic : Dynamic) (stands : StandsAmong text lexemes dynamic)
      → IsRead text stands.behind dynamic.kind → Contains dynamics dynamic

-- a declaration says or doesn't that the parser is a generalized one, to which lexemes say something
abbrev pub IsParserBy : List ℕ → List Lexeme → Bool → Parser → Type 0
IsParserBy text lexemes generalized Deterministic = generalized ≡ false
IsParserBy text lexemes generalized (Generalized dynamics) =
    (generalized ≡ true) × AreDynamicsOf text lexemes dynamics.items

-- the parser of a file: by all its lexemes
pub record IsParserOf (text : List ℕ) (dialect : Dialect) (generalized : Bool) (parser : Parser)
    : Type 0 where
  pub lexemes : List Lexeme
  pub of_text : AreAllLexemesOf text dialect lexemes
  pub by : IsParserBy text lexemes generalized parser
