-- declarations that are read up to a place
use Rattle.std.specs.Prelude.{◌≡◌, ℕ, ◌-◌, ◌≤◌, Bool, true, false, List, [], ◌∷◌, ◌++◌, Option, IfSome, length, slice_get}
use Rattle.lryacc.specs.declared.contents.LevelKind.{LevelKind}
use Rattle.lryacc.specs.declared.contents.Statement.{Statement}
use Rattle.lryacc.specs.declared.contents.Statement.TheVariants as says
use Rattle.lryacc.specs.declared.declarations.Said.{Said}
use Rattle.lryacc.specs.declared.declarations.Said.TheVariants as said
use Rattle.lryacc.specs.declared.directives.Form.{Form}
use Rattle.lryacc.specs.declared.directives.Form.TheVariants as form
use Rattle.lryacc.specs.declared.lexemes.Lexeme.{Lexeme}
use Rattle.lryacc.specs.declared.lexemes.LexemeKind.{LexemeKind}
use Rattle.lryacc.specs.declared.lexemes.LexemeKind.TheVariants as kind
use Rattle.lryacc.specs.declared.reader.Reader.{Reader}
use Rattle.lryacc.specs.AllLexemes.{is_separator}
use Rattle.lryacc.specs.Declarations.{alias_of, counted_of, declared_over, form_before, if_symbol, symbol_before}

-- the directive that counts where a reader stands
abbrev pub form_here : Reader → Form
form_here reader = form_before reader.text.now reader.dialect reader.lexemes.now reader.at

-- the symbol of which a number or a text here is said
abbrev pub symbol_here : Reader → Option Lexeme
symbol_here reader = symbol_before reader.lexemes.now reader.at

-- the lexeme right before it, if that is a symbol
abbrev pub symbol_behind : Reader → Option Lexeme
symbol_behind reader = if_symbol (slice_get reader.lexemes.now (reader.at - 1))

-- what it has stated
abbrev pub stated : Reader → List Statement
stated reader = counted_of reader.contents.statements.items

-- what the lexemes declare from a place on
abbrev pub declared_from : Reader → ℕ → List Statement
declared_from reader at =
    declared_over reader.text.now reader.dialect reader.lexemes.now at
    (length reader.lexemes.now - at)

-- that, with what a reader has stated, and with statements that it owes between both
unfoldable pub all_stated : Reader → List Statement → List Statement
all_stated reader owed = stated reader ++ (owed ++ declared_from reader reader.at)

-- a reader states just what the lexemes declare that it goes over
abbrev pub StatesDeclared : Reader → Reader → Type 0
StatesDeclared old new = all_stated new [] ≡ all_stated old []

-- the same, and the same directive counts
pub record StatesListed (old new : Reader) : Type 0 where
  pub declared : StatesDeclared old new
  pub form : form_here new ≡ form_here old

-- a reader goes over a text, which declares another name of the symbol before it, and the same directive counts
pub record TakesAlias (old new : Reader) (text : Lexeme) : Type 0 where
  pub declared : all_stated old [] ≡ all_stated new (alias_of (symbol_here old) text)
  pub form : form_here new ≡ form_here old

-- lexemes of a kind declare nothing wherever they stand
abbrev pub is_silent : LexemeKind → Bool
is_silent kind.Directive = false
is_silent kind.Number = false
is_silent kind.Name = false
is_silent (kind.Character byte) = false
is_silent kind.Text = false
is_silent kind.TranslatedText = false
is_silent kind.QuotedName = false
is_silent _ = true

-- whether a directive is followed by how many conflicts are expected
abbrev pub is_of_numbers : Form → Bool
is_of_numbers form.ShiftReduce = true
is_of_numbers form.ReduceReduce = true
is_of_numbers _ = false

-- whether names are declared behind a directive, each perhaps with a text
abbrev pub is_of_names : Form → Bool
is_of_names form.Tokens = true
is_of_names form.Rules = true
is_of_names _ = false

-- whether symbols behind a directive may have numbers
abbrev pub is_of_codes : Form → Bool
is_of_codes form.Tokens = true
is_of_codes form.Rules = true
is_of_codes (form.Level kind) = true
is_of_codes _ = false

-- which of both directives it is
abbrev pub form_expected : Bool → Form
form_expected true = form.ShiftReduce
form_expected false = form.ReduceReduce

-- what is said of a symbol is that which the directive declares of it
abbrev pub IsSaidBy : Said → Form → Type 0
IsSaidBy said.DeclaredToken behind = behind ≡ form.Tokens
IsSaidBy said.DeclaredRule behind = behind ≡ form.Rules
IsSaidBy said.Operator behind = (kind : LevelKind) × (behind ≡ form.Level kind)
IsSaidBy said.InLevel behind = (kind : LevelKind) × (behind ≡ form.Level kind)
IsSaidBy said.Start behind = behind ≡ form.Starts
IsSaidBy _ behind = behind ≡ form.Nothing

-- whether that declares the symbol itself
abbrev pub is_declaring : Said → Bool
is_declaring said.DeclaredToken = true
is_declaring said.DeclaredRule = true
is_declaring _ = false

-- what that comes to
abbrev pub said_of : Said → Lexeme → List Statement
said_of said.DeclaredRule symbol = says.Rule symbol ∷ []
said_of said.Operator symbol = says.InLevel symbol ∷ []
said_of said.InLevel symbol = says.InLevel symbol ∷ []
said_of said.Start symbol = says.Start symbol ∷ []
said_of _ symbol = []

-- a reader goes on to the second `%%`, or to the end of the file, and states just what the lexemes up to there declare
pub record StatesAll (old new : Reader) : Type 0 where
  pub to : ℕ
  pub on : old.at ≤ to
  pub ends : IfSome (slice_get old.lexemes.now to) (λ lexeme. is_separator lexeme.kind ≡ true)
  pub declared : stated new ++ declared_from old to ≡ all_stated old []
