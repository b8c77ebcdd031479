-- what the lexemes of a file declare of its names, conflicts, precedences and start symbols
use Rattle.std.specs.Prelude.{◌≡◌, ℕ, zero, suc, ◌+◌, ◌-◌, ◌≤◌, if◌then◌else◌, Bool, true, false, List, [], ◌∷◌, ◌++◌, Option, None, Some, IfSome, nat_eq, slice_get}
use Rattle.std.specs.List.{filter}
use Rattle.lryacc.specs.declared.contents.Statement.{Statement}
use Rattle.lryacc.specs.declared.contents.Statement.TheVariants as says
use Rattle.lryacc.specs.declared.dialects.Dialect.{Dialect}
use Rattle.lryacc.specs.declared.directives.Form.{Form}
use Rattle.lryacc.specs.declared.directives.Form.TheVariants as form
use Rattle.lryacc.specs.declared.lexemes.Lexeme.{Lexeme}
use Rattle.lryacc.specs.declared.lexemes.LexemeKind.{LexemeKind}
use Rattle.lryacc.specs.declared.lexemes.LexemeKind.TheVariants as kind
use Rattle.lryacc.specs.AllBodies.{IsBehindFirst}
use Rattle.lryacc.specs.AllLexemes.{is_separator}
use Rattle.lryacc.specs.Bodies.{is_symbol}
use Rattle.lryacc.specs.Delimiters.{delimiters_before}
use Rattle.lryacc.specs.Directives.{form_of}
use Rattle.lryacc.specs.NamedSymbols.{text_at}

-- whether a statement is of a rule, a symbol's number or other name, a precedence line, a start symbol, expected conflicts, the
-- parser, or bodies without `%prec`
abbrev pub is_counted : Statement → Bool
is_counted (says.Rule symbol) = true
is_counted (says.Code symbol number) = true
is_counted (says.Alias symbol text) = true
is_counted (says.Level kind) = true
is_counted (says.InLevel symbol) = true
is_counted (says.Start symbol) = true
is_counted (says.ExpectShiftReduce number) = true
is_counted (says.ExpectReduceReduce number) = true
is_counted says.Glr = true
is_counted (says.DefaultPrecedence is_on) = true
is_counted _ = false

-- those statements, in their order
abbrev pub counted_of : List Statement → List Statement
counted_of statements = filter is_counted statements

-- what a directive declares by itself
abbrev pub directive_declares : Form → List Statement
directive_declares (form.Level kind) = says.Level kind ∷ []
directive_declares form.Glr = says.Glr ∷ []
directive_declares (form.DefaultPrecedence is_on) = says.DefaultPrecedence is_on ∷ []
directive_declares _ = []

-- whether a lexeme is a number
abbrev pub is_number : LexemeKind → Bool
is_number kind.Number = true
is_number _ = false

-- the lexeme, if it is a symbol
abbrev pub if_symbol : Option Lexeme → Option Lexeme
if_symbol None = None
if_symbol (Some lexeme) = if is_symbol lexeme.kind then Some lexeme else None

-- the symbol right before, or before the number that stands there
abbrev pub symbol_by : Option Lexeme → Option Lexeme → Option Lexeme
symbol_by None before = None
symbol_by (Some lexeme) before =
    if is_number lexeme.kind then if_symbol before else if_symbol (Some lexeme)

-- the symbol of which a number or a text at a place is said
abbrev pub symbol_before : List Lexeme → ℕ → Option Lexeme
symbol_before lexemes at = symbol_by (slice_get lexemes (at - 1)) (slice_get lexemes (at - 2))

-- what a symbol declares where a directive counts
abbrev pub symbol_declares : Form → Lexeme → List Statement
symbol_declares form.Rules symbol = says.Rule symbol ∷ []
symbol_declares (form.Level kind) symbol = says.InLevel symbol ∷ []
symbol_declares form.Starts symbol = says.Start symbol ∷ []
symbol_declares _ symbol = []

-- that a text is another name of a symbol
abbrev pub alias_of : Option Lexeme → Lexeme → List Statement
alias_of None text = []
alias_of (Some symbol) text = says.Alias symbol text ∷ []

-- what a text declares: another name of the symbol before it where tokens or rules are declared, else what symbols do
abbrev pub text_declares : Form → Option Lexeme → Lexeme → List Statement
text_declares form.Tokens symbol text = alias_of symbol text
text_declares form.Rules symbol text = alias_of symbol text
text_declares behind symbol text = symbol_declares behind text

-- what one that is to be translated does
abbrev pub translated_declares : Form → Option Lexeme → Lexeme → List Statement
translated_declares form.Tokens symbol text = alias_of symbol text
translated_declares form.Rules symbol text = alias_of symbol text
translated_declares _ symbol text = []

-- that a symbol has a number
abbrev pub code_of : Option Lexeme → Lexeme → List Statement
code_of None number = []
code_of (Some symbol) number = says.Code symbol number ∷ []

-- what a number declares: how many conflicts are expected, if no rule stands before it; or the number of the symbol before it
abbrev pub number_declares : Form → Bool → Option Lexeme → Lexeme → List Statement
number_declares form.ShiftReduce true symbol number = says.ExpectShiftReduce number ∷ []
number_declares form.ReduceReduce true symbol number = says.ExpectReduceReduce number ∷ []
number_declares form.Tokens _ symbol number = code_of symbol number
number_declares form.Rules _ symbol number = code_of symbol number
number_declares (form.Level kind) _ symbol number = code_of symbol number
number_declares _ _ symbol number = []

-- what a lexeme of a kind declares, behind a symbol: a directive what its word does, which is `own`; numbers, texts and symbols
-- what the directive has them declare that counts there
abbrev pub lexeme_declares : LexemeKind → Form → Form → Bool → Option Lexeme → Lexeme → List Statement
lexeme_declares kind.Directive own behind is_first symbol it = directive_declares own
lexeme_declares kind.Number own behind is_first symbol it =
    number_declares behind is_first symbol it
lexeme_declares kind.Name own behind is_first symbol it = symbol_declares behind it
lexeme_declares (kind.Character byte) own behind is_first symbol it = symbol_declares behind it
lexeme_declares kind.Text own behind is_first symbol it = text_declares behind symbol it
lexeme_declares kind.TranslatedText own behind is_first symbol it =
    translated_declares behind symbol it
lexeme_declares kind.QuotedName own behind is_first symbol it = symbol_declares behind it
lexeme_declares _ own behind is_first symbol it = []

-- the directive that counts behind such a lexeme: that itself, or behind symbols, numbers, tags and texts the one that counted
-- before; behind all else none
abbrev pub form_by : LexemeKind → Form → Form → Form
form_by kind.Directive own before = own
form_by kind.Number own before = before
form_by kind.Name own before = before
form_by (kind.Character byte) own before = before
form_by kind.Text own before = before
form_by kind.TranslatedText own before = before
form_by kind.QuotedName own before = before
form_by kind.Tag own before = before
form_by _ own before = form.Nothing

-- the same, if a lexeme stands there
abbrev pub form_behind : List ℕ → Dialect → Form → Option Lexeme → Form
form_behind text dialect before None = form.Nothing
form_behind text dialect before (Some lexeme) =
    form_by lexeme.kind (form_of dialect (text_at text lexeme.span)) before

-- the directive that counts at a place
unfoldable pub form_before : List ℕ → Dialect → List Lexeme → ℕ → Form
form_before text dialect lexemes zero = form.Nothing
form_before text dialect lexemes (suc at) =
    form_behind text dialect (form_before text dialect lexemes at) (slice_get lexemes at)

-- whether no rule stands before a place, and no `%%`
abbrev pub is_before_rules : List Lexeme → ℕ → Bool
is_before_rules lexemes at = nat_eq (delimiters_before lexemes at) 0

-- what a lexeme declares, if there is one
abbrev pub declared_by : List ℕ → Dialect → Form → Bool → Option Lexeme → Option Lexeme → List Statement
declared_by text dialect behind is_first symbol None = []
declared_by text dialect behind is_first symbol (Some lexeme) =
    lexeme_declares lexeme.kind (form_of dialect (text_at text lexeme.span)) behind is_first symbol
    lexeme

-- what the lexeme at a place declares
abbrev pub declared_at : List ℕ → Dialect → List Lexeme → ℕ → List Statement
declared_at text dialect lexemes at =
    declared_by text dialect (form_before text dialect lexemes at) (is_before_rules lexemes at)
    (symbol_before lexemes at) (slice_get lexemes at)

-- what so many lexemes declare, from a place on: what each of them does, in their order
unfoldable pub declared_over : List ℕ → Dialect → List Lexeme → ℕ → ℕ → List Statement
declared_over text dialect lexemes from zero = []
declared_over text dialect lexemes from (suc count) =
    declared_at text dialect lexemes from ++ declared_over text dialect lexemes (from + 1) count

-- of rules, numbers and other names of symbols, precedence lines, start symbols, expected conflicts, the parser and bodies without
-- `%prec`, statements say what lexemes of a file declare, from the first one on up to the second `%%`, or up to the end of the file
pub record AreAllDeclared (text : List ℕ) (lexemes : List Lexeme) (dialect : Dialect)
    (statements : List Statement) : Type 0 where
  pub begun : ℕ
  pub behind : IsBehindFirst lexemes begun
  pub to : ℕ
  pub on : begun ≤ to
  pub ends : IfSome (slice_get lexemes to) (λ lexeme. is_separator lexeme.kind ≡ true)
  pub are : counted_of statements ≡ declared_over text dialect lexemes 0 to
