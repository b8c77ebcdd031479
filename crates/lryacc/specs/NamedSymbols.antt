-- which rule or token of a grammar a lexeme names
use Rattle.std.specs.Prelude.{◌≡◌, ◌≢◌, ℕ, ◌+◌, ◌-◌, ◌/◌, ◌%◌, ◌⊎◌, ◌&&◌, not, ◌++◌, List, [], ◌∷◌, Bool, true, false, Option, Some, None, min, map, length, Contains, ◌<◌, if◌then◌else◌, nat_le, nat_lt, nat_eq, codes, slice_get, slice_range, string_bytes}
use Rattle.std.specs.Str.{bytes_eq}
use Rattle.std.specs.Fmt.{digit_glyph}
use Rattle.std.specs.List.{flat_map}
use Rattle.std.specs.BTreeMap.{get, get_by}
use Rattle.std.specs.Cmp.Lexicographic.{slice_cmp}
use Rattle.std.specs.Option.{option_map}
use Rattle.std.specs.Ordering.{nat_cmp}
use Rattle.lrgrammar.specs.declared.grammar.PartSymbol.{PartSymbol}
use Rattle.lrgrammar.specs.declared.grammar.PartSymbol.TheVariants.{Rule, Token}
use Rattle.lryacc.specs.declared.contents.Alternative.{Alternative}
use Rattle.lrgrammar.specs.declared.grammar.Precedence.{Precedence}
use Rattle.lryacc.specs.declared.contents.Contents.{Contents}
use Rattle.lryacc.specs.declared.contents.LevelKind.{LevelKind}
use Rattle.lryacc.specs.declared.contents.Statement.{Statement}
use Rattle.lryacc.specs.declared.contents.Statement.TheVariants as says
use Rattle.lryacc.specs.declared.dialects.Dialect.{Dialect}
use Rattle.lryacc.specs.declared.dialects.Dialect.TheVariants.{Bison, Grmtools}
use Rattle.lryacc.specs.declared.lexemes.Lexeme.{Lexeme}
use Rattle.lryacc.specs.declared.lexemes.LexemeKind.{LexemeKind}
use Rattle.lryacc.specs.declared.lexemes.LexemeKind.TheVariants as kind
use Rattle.lryacc.specs.declared.meaning.Meaning.{Meaning}
use Rattle.lryacc.specs.declared.numbering.FileGrammar.{FileGrammar}
use Rattle.lryacc.specs.declared.places.Span.{Span}
use Rattle.lryacc.specs.declared.symbols.Symbols.{Symbols}
use Rattle.lryacc.specs.Levels.{line_of, precedence_of}
use Rattle.lryacc.specs.Quotes.{IsLetterFor}

-- the bytes at a place, if it is one of the text
abbrev pub text_at : List ℕ → Span → List ℕ
text_at text span =
    if nat_le span.start span.end && nat_le span.end (length text)
    then slice_range text span.start span.end else []

-- a word without its first bytes and its last one, if it has so many
abbrev pub without_ends : ℕ → List ℕ → List ℕ
without_ends front word =
    if nat_le (front + 1) (length word) then slice_range word front (length word - 1) else word

-- whether a word has `_(` and `)` around it
abbrev pub is_translated : List ℕ → Bool
is_translated word =
    bytes_eq (slice_range word 0 2) (codes "_(")
    && bytes_eq (slice_range word (length word - 1) (length word)) (codes ")")

abbrev pub is_bison : Dialect → Bool
is_bison Bison = true
is_bison Grmtools = false

-- the name in a word: quotes of grmtools, and what has a text translated, are no part of it; `YYerror` is `error` for Bison
abbrev pub name_in : Dialect → LexemeKind → List ℕ → List ℕ
name_in dialect kind.TranslatedText word = if is_translated word then without_ends 2 word else word
name_in dialect kind.QuotedName word = without_ends 1 word
name_in Bison kind.Name word =
    if bytes_eq word (codes "YYerror") then codes "error" else word
name_in Bison kind.RuleName word =
    if bytes_eq word (codes "YYerror") then codes "error" else word
name_in _ _ word = word

-- the name that a lexeme is
abbrev pub name_of : List ℕ → Dialect → Lexeme → List ℕ
name_of text dialect lexeme = name_in dialect lexeme.kind (text_at text lexeme.span)

-- what a symbol is called: a word, or a byte in quotes, which is no word
pub data Name : Type 0 where
  word : List ℕ → Name
  character : ℕ → Name

abbrev pub name_as : LexemeKind → List ℕ → Name
name_as (kind.Character byte) bytes = Name.character byte
name_as _ bytes = Name.word bytes

-- what a lexeme calls a symbol
abbrev pub called : List ℕ → Dialect → Lexeme → Name
called text dialect lexeme = name_as lexeme.kind (name_of text dialect lexeme)

-- ---- the tables of a file

-- the number of a name
abbrev pub number_in : Symbols → Name → Option ℕ
number_in symbols (Name.word bytes) =
    get_by (λ key. slice_cmp nat_cmp bytes key.now) symbols.names
number_in symbols (Name.character byte) = get nat_cmp symbols.characters byte

-- that of the name that a lexeme is
abbrev pub number_of : Symbols → Lexeme → Option ℕ
number_of symbols lexeme =
    number_in symbols (called symbols.text.now symbols.dialect lexeme)

-- names have numbers of their own
abbrev pub AreApart : Symbols → Type 0
AreApart symbols =
    (one other : Name) (number : ℕ) → number_in symbols one ≡ Some number
    → number_in symbols other ≡ Some number → one ≡ other

-- these are those of a list
pub record HaveNumbers (symbols : Symbols) : Type 0 where
  pub below : (name : Name) (number : ℕ) → number_in symbols name ≡ Some number
      → number < length symbols.list.items
  pub apart : AreApart symbols

-- names are added
pub record AddsNames (old new : Symbols) : Type 0 where
  pub text : new.text.now ≡ old.text.now
  pub dialect : new.dialect ≡ old.dialect
  pub partners : new.partners ≡ old.partners
  pub numbers : HaveNumbers old → HaveNumbers new

-- the names are the same
pub record KeepsNames (old new : Symbols) : Type 0 where
  pub text : new.text.now ≡ old.text.now
  pub dialect : new.dialect ≡ old.dialect
  pub words : new.names ≡ old.names
  pub characters : new.characters ≡ old.characters

-- so are those that symbols have beside others
pub record KeepsSymbols (old new : Symbols) : Type 0 where
  pub names : KeepsNames old new
  pub partners : new.partners ≡ old.partners

-- a name that had none gets a number, and all else stays
pub record AddsName (old new : Symbols) (lexeme : Lexeme) (number : ℕ) : Type 0 where
  pub text : new.text.now ≡ old.text.now
  pub dialect : new.dialect ≡ old.dialect
  pub list : new.list ≡ old.list
  pub partners : new.partners ≡ old.partners
  pub here : number_in new (called old.text.now old.dialect lexeme) ≡ Some number
  pub others : (name : Name) → (number_in new name ≡ number_in old name)
      ⊎ (name ≡ called old.text.now old.dialect lexeme)

-- the number of the other name of a symbol
abbrev pub partner_in : Symbols → ℕ → Option ℕ
partner_in symbols number = get nat_cmp symbols.partners number

-- of two names of one symbol the earlier one
abbrev pub earlier : ℕ → Option ℕ → ℕ
earlier number None = number
earlier number (Some other) = min other number

-- the number of a symbol: that of the earlier of its two names
abbrev pub first_name : Symbols → ℕ → ℕ
first_name symbols number = earlier number (partner_in symbols number)

-- the number of the symbol that a lexeme names
abbrev pub symbol_number : Symbols → Lexeme → Option ℕ
symbol_number symbols lexeme = option_map (first_name symbols) (number_of symbols lexeme)

-- two names become those of one symbol, and all else stays
pub record Pairs (old new : Symbols) (one other : ℕ) : Type 0 where
  pub same : new ≡ record old { partners = new.partners }
  pub first : one ≢ other → partner_in new one ≡ Some other
  pub second : partner_in new other ≡ Some one
  pub others : (number : ℕ) → number ≢ one → number ≢ other
      → partner_in new number ≡ partner_in old number

-- they do, and nothing else is said of names behind that
pub record BecomeOne (old new : Symbols) (one other : ℕ) : Type 0 where
  pub now : Symbols
  pub pairs : Pairs old now one other
  pub keeps : KeepsSymbols now new

-- two names are those of a symbol and of its other name
pub record ArePair (symbols : Symbols) (one other : Lexeme) (number partner : ℕ) : Type 0 where
  pub first : number_of symbols one ≡ Some number
  pub second : number_of symbols other ≡ Some partner

-- a declaration makes them those of one symbol
pub record IsDeclared (statements : List Statement) (symbols : Symbols) (number partner : ℕ)
    : Type 0 where
  pub symbol : Lexeme
  pub alias : Lexeme
  pub is : Contains statements (says.Alias symbol alias)
  pub numbers : ArePair symbols symbol alias number partner
      ⊎ ArePair symbols symbol alias partner number

-- each other name of a symbol is one by a declaration
pub record ArePartnered (statements : List Statement) (symbols : Symbols) : Type 0 where
  pub by : (number partner : ℕ) → partner_in symbols number ≡ Some partner
      → IsDeclared statements symbols number partner
  pub apart : (number partner : ℕ) → partner_in symbols number ≡ Some partner → number ≢ partner
  pub both : (number partner : ℕ) → partner_in symbols number ≡ Some partner
      → partner_in symbols partner ≡ Some number

-- a declaration is taken in that may make names those of one symbol
pub record TakesOne (statement : Statement) (old new : Symbols) : Type 0 where
  pub names : KeepsNames old new
  pub partnered : (statements : List Statement) → Contains statements statement
      → ArePartnered statements old → ArePartnered statements new

-- some of the declarations are taken in
pub record TakesSome (statements : List Statement) (old new : Symbols) : Type 0 where
  pub names : KeepsNames old new
  pub partnered : ArePartnered statements old → ArePartnered statements new

-- ---- names of one symbol

-- a declaration makes one name the other name of a symbol
pub record IsAlias (text : List ℕ) (dialect : Dialect) (statements : List Statement)
    (one other : Lexeme) : Type 0 where
  pub symbol : Lexeme
  pub alias : Lexeme
  pub is : Contains statements (says.Alias symbol alias)
  pub symbol_is : called text dialect symbol ≡ called text dialect one
  pub alias_is : called text dialect alias ≡ called text dialect other

-- two lexemes name one symbol: by the same name, or by two of which a declaration says so
abbrev pub NameOne : List ℕ → Dialect → List Statement → Lexeme → Lexeme → Type 0
NameOne text dialect statements one other =
    (called text dialect one ≡ called text dialect other)
    ⊎ IsAlias text dialect statements one other ⊎ IsAlias text dialect statements other one

-- the names of a file, and those of the rules and tokens of its grammar
pub record Names : Type 0 where
  pub text : List ℕ
  pub dialect : Dialect
  pub statements : List Statement
  pub bodies : List Alternative
  -- the symbol that a lexeme names
  pub number : Lexeme → Option ℕ
  -- the rule or token of a grammar that the symbol of a number is
  pub symbol : ℕ → Option PartSymbol
  -- the end token
  pub end : Option ℕ
  pub rules : List (List ℕ)
  pub tokens : List (List ℕ)
  -- by rule, where it stands first
  pub starts : List ℕ
  -- the precedence lines, and the one in which a symbol stands, counted from 1
  pub lines : List LevelKind
  pub line : ℕ → Option ℕ
  -- by token
  pub precedences : List (Option Precedence)
  -- whether bodies without `%prec` have a precedence
  pub has_default : Bool

-- those of a file whose names have their meaning, and whose symbols are these
abbrev pub names_in : Meaning → Contents → (ℕ → Option PartSymbol) → FileGrammar → Names
names_in meaning contents symbol file =
    record {
      text = meaning.symbols.text.now;
      dialect = meaning.symbols.dialect;
      statements = contents.statements.items;
      bodies = contents.alternatives.items;
      number = symbol_number meaning.symbols;
      symbol = symbol;
      end = option_map (first_name meaning.symbols) meaning.end;
      rules = map (λ name. string_bytes name) file.parts.rules.items;
      tokens = map (λ token. string_bytes token.name) file.parts.tokens.items;
      starts = map (λ place. place.start) file.rule_places.items;
      lines = meaning.levels.items;
      line = line_of meaning;
      precedences = map (λ token. token.precedence) file.parts.tokens.items;
      has_default = meaning.has_default_precedence;
    }

-- a name whose bytes that are not ASCII, and its backslashes, are written by their numbers
abbrev pub escaped_byte : ℕ → List ℕ
escaped_byte byte =
    if nat_lt byte 128 && not (nat_eq byte 92) then byte ∷ []
    else codes "\\x{" ++ digit_glyph true (byte / 16) ∷ digit_glyph true (byte % 16) ∷ codes "}"

-- how a name stands in a grammar
abbrev pub IsTextOf : List ℕ → List ℕ → Type 0
IsTextOf name text = (text ≡ name) ⊎ (text ≡ flat_map escaped_byte name)

-- a symbol is a rule: it stands before a colon, or is declared a rule or a start symbol
pub data IsRule (number_of : Lexeme → Option ℕ) (statements : List Statement)
    (bodies : List Alternative) (number : ℕ) : Type 0 where
  before_colon : (body : Alternative) → Contains bodies body → number_of body.rule ≡ Some number
      → IsRule number_of statements bodies number
  declared : (lexeme : Lexeme) → Contains statements (says.Rule lexeme)
      → number_of lexeme ≡ Some number → IsRule number_of statements bodies number
  start : (lexeme : Lexeme) → Contains statements (says.Start lexeme)
      → number_of lexeme ≡ Some number → IsRule number_of statements bodies number

-- whether the symbol that a lexeme names is one
abbrev pub NamesRule : Names → Lexeme → Type 0
NamesRule names lexeme =
    (number : ℕ) → names.number lexeme ≡ Some number
    → IsRule names.number names.statements names.bodies number

-- a rule stands in a grammar by a name of a symbol, behind `$accept`
pub record IsRuleOf (names : Names) (number rule : ℕ) : Type 0 where
  pub is_rule : IsRule names.number names.statements names.bodies number
  pub behind : 0 < rule
  pub name : Lexeme
  pub same : names.number name ≡ Some number
  pub text : List ℕ
  pub here : slice_get names.rules rule ≡ Some text
  pub is : IsTextOf (name_of names.text names.dialect name) text

-- whether a byte prints, and is no `'` and no backslash
abbrev pub is_plain : ℕ → Bool
is_plain byte = nat_le 32 byte && nat_le byte 126 && not (nat_eq byte 39) && not (nat_eq byte 92)

-- a byte as three octal digits
abbrev pub octal_digits : ℕ → List ℕ
octal_digits byte = (48 + byte / 64) ∷ (48 + byte / 8 % 8) ∷ (48 + byte % 8) ∷ []

-- how a byte in quotes stands in a grammar
pub data IsCharacterText (byte : ℕ) : List ℕ → Type 0 where
  -- by itself, if it is plain
  by_itself : is_plain byte ≡ true → IsCharacterText byte (39 ∷ byte ∷ 39 ∷ [])
  -- else by the letter that is it behind a backslash
  by_letter : {letter : ℕ} → is_plain byte ≡ false → IsLetterFor letter byte
      → IsCharacterText byte (39 ∷ 92 ∷ letter ∷ 39 ∷ [])
  -- or, where no letter is, by octal digits there
  by_digits : is_plain byte ≡ false → ((letter : ℕ) → ¬ IsLetterFor letter byte)
      → IsCharacterText byte (39 ∷ 92 ∷ (octal_digits byte ++ 39 ∷ []))

-- how a name of a token stands in a grammar: for grmtools in quotes
abbrev pub IsNameOfToken : Dialect → List ℕ → List ℕ → Type 0
IsNameOfToken Bison name text = IsTextOf name text
IsNameOfToken Grmtools name text =
    (inner : List ℕ) × IsTextOf name inner × (text ≡ codes "'" ++ inner ++ codes "'")

abbrev pub IsTokenText : Dialect → LexemeKind → List ℕ → List ℕ → Type 0
IsTokenText dialect (kind.Character byte) name text = IsCharacterText byte text
IsTokenText dialect _ name text = IsNameOfToken dialect name text

-- a token has the precedence of the line in which a symbol stands
abbrev pub HasPrecedenceOf : Names → ℕ → ℕ → Type 0
HasPrecedenceOf names number token =
    slice_get names.precedences token ≡ Some (precedence_of names.lines (names.line number))

-- a token stands in a grammar by a name of a symbol, with its precedence
pub record IsTokenNamed (names : Names) (number token : ℕ) : Type 0 where
  pub name : Lexeme
  pub same : names.number name ≡ Some number
  pub text : List ℕ
  pub here : slice_get names.tokens token ≡ Some text
  pub is : IsTokenText names.dialect name.kind (name_of names.text names.dialect name) text
  pub precedence : HasPrecedenceOf names number token

-- the end token may have a name that stands in no file
pub record IsEndToken (names : Names) (number token : ℕ) : Type 0 where
  pub end : names.end ≡ Some number
  pub is : slice_get names.tokens token ≡ Some (codes "$end")
  pub precedence : HasPrecedenceOf names number token

-- a token is that of a symbol
abbrev pub IsTokenOf : Names → ℕ → ℕ → Type 0
IsTokenOf names number token = IsTokenNamed names number token ⊎ IsEndToken names number token

-- a rule or a token is that of a symbol
abbrev pub IsSymbolOf : Names → ℕ → PartSymbol → Type 0
IsSymbolOf names number (Rule rule) = IsRuleOf names number rule
IsSymbolOf names number (Token token) = IsTokenOf names number token

-- each rule and each token of a grammar is the symbol of one number
abbrev pub AreOneEach : (ℕ → Option PartSymbol) → Type 0
AreOneEach symbol_of =
    (number other : ℕ) (symbol : PartSymbol) → symbol_of number ≡ Some symbol
    → symbol_of other ≡ Some symbol → number ≡ other

-- a symbol that is declared a rule is one
abbrev pub AreDeclaredRules : Names → Type 0
AreDeclaredRules names =
    (lexeme : Lexeme) (number : ℕ) → Contains names.statements (says.Rule lexeme)
    → names.number lexeme ≡ Some number → (rule : ℕ) × (names.symbol number ≡ Some (Rule rule))

-- a lexeme names the rule or token of a grammar that the symbol of its number is, which stands there by a name of that symbol
pub record IsNamed (names : Names) (lexeme : Lexeme) (symbol : PartSymbol) : Type 0 where
  pub number : ℕ
  pub names_it : names.number lexeme ≡ Some number
  pub is_it : names.symbol number ≡ Some symbol
  pub is : IsSymbolOf names number symbol

-- token 0 of a grammar is the end token: no other symbol is it, and it stands there by a name of the end, or is called `$end`, and
-- has no precedence, where a file has none
pub record HasEndToken (names : Names) : Type 0 where
  pub no_other : (number : ℕ) → names.symbol number ≡ Some (Token 0) → names.end ≡ Some number
  pub is_first : (number token : ℕ) → names.end ≡ Some number
      → names.symbol number ≡ Some (Token token) → token ≡ 0
  pub named : (number : ℕ) → names.end ≡ Some number → IsTokenOf names number 0
  pub unnamed : names.end ≡ None → slice_get names.tokens 0 ≡ Some (codes "$end")
  pub no_level : names.end ≡ None → slice_get names.precedences 0 ≡ Some None
