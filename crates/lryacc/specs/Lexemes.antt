-- the lexemes of a text
use Rattle.std.specs.Prelude.{◌≡◌, ℕ, ◌+◌, ◌<◌, ◌≤◌, ◌⊎◌, ◌&&◌, ◌||◌, if◌then◌else◌, Bool, true, false, List, [], ◌∷◌, codes, length, slice_index, slice_range}
use Rattle.std.specs.Char.{is_ascii_digit}
use Rattle.lryacc.specs.declared.code.Ending.TheVariants.{Brace, PrologueMark}
use Rattle.lryacc.specs.declared.dialects.Dialect.{Dialect}
use Rattle.lryacc.specs.declared.dialects.Dialect.TheVariants.{Bison, Grmtools}
use Rattle.lryacc.specs.declared.lexemes.Lexeme.{Lexeme}
use Rattle.lryacc.specs.declared.lexemes.LexemeKind.{LexemeKind}
use Rattle.lryacc.specs.declared.lexemes.LexemeKind.TheVariants as kind
use Rattle.lryacc.specs.GrmtoolsQuotes.{IsQuotedName, IsQuotedText}
use Rattle.lryacc.specs.Quotes.{AreQuoted, IsText, IsTranslated}
use Rattle.lryacc.specs.Tags.{IsTag}
use Rattle.lryacc.specs.Code.{EndsCode}
use Rattle.lryacc.specs.Comments.{is_white}
use Rattle.lryacc.specs.Gaps.{IsGap}
use Rattle.lryacc.specs.RuleTypes.{IsRuleType}
use Rattle.lryacc.specs.RustCode.{EndsRustCode}
use Rattle.lryacc.specs.Words.{Are, Begins, IsRun, IsWord, is_in_directive, is_in_name, is_in_rest, is_in_word, is_name_start, is_percent, is_short, is_word_start}

-- ---- directives of Bison

-- `%`, or of old Yacc a backslash, and a word
pub record IsWordDirective (text : List ℕ) (start end : ℕ) : Type 0 where
  pub mark : Begins 37 text start ⊎ Begins 92 text start
  pub word : IsWord is_name_start is_in_name text (start + 1) end

-- `%`, and one byte
pub record IsShortDirective (text : List ℕ) (start end : ℕ) : Type 0 where
  pub mark : Begins 37 text start
  pub short : is_short (slice_index text (start + 1)) ≡ true
  pub ends : end ≡ start + 2

-- ---- directives of grmtools

-- with these names, a type stands on the rest of the line
abbrev pub HasLine : List ℕ → Type 0
HasLine name =
    (name ≡ codes "%actiontype") ⊎ ((name ≡ codes "%parse-param") ⊎ (name ≡ codes "%parse-generics"))

-- a directive by its name alone
pub record IsNameDirective (text : List ℕ) (start end : ℕ) : Type 0 where
  pub name : IsWord is_percent is_in_directive text start end
  pub alone : ¬ HasLine (slice_range text start end)

-- a directive whose name ends at `behind`, with the rest of its line
pub record IsLineDirective (text : List ℕ) (start end : ℕ) : Type 0 where
  pub behind : ℕ
  pub name : IsWord is_percent is_in_directive text start behind
  pub has_line : HasLine (slice_range text start behind)
  pub line : IsRun is_in_rest text behind end

-- ---- names in brackets

-- a name in brackets, with gaps around it: it begins at `name`, ends at `behind`, and its `]` stands at `last`
pub record IsBracketName (text : List ℕ) (start end : ℕ) : Type 0 where
  pub name : ℕ
  pub behind : ℕ
  pub last : ℕ
  pub opens : Begins 91 text start
  pub before : IsGap Bison text (start + 1) name
  pub word : IsWord is_name_start is_in_name text name behind
  pub after : IsGap Bison text behind last
  pub closes : Begins 93 text last
  pub ends : end ≡ last + 1

-- ---- lexemes

-- what a lexeme of a kind is for Bison
abbrev pub IsBisonLexeme : LexemeKind → List ℕ → ℕ → ℕ → Type 0
IsBisonLexeme kind.Name text start end = IsWord is_name_start is_in_name text start end
IsBisonLexeme kind.BracketName text start end = IsBracketName text start end
IsBisonLexeme kind.Number text start end = IsWord is_ascii_digit is_in_name text start end
IsBisonLexeme (kind.Character byte) text start end = AreQuoted 39 (byte ∷ []) text start end
IsBisonLexeme kind.Text text start end = IsText text start end
IsBisonLexeme kind.TranslatedText text start end = IsTranslated text start end
IsBisonLexeme kind.Tag text start end = IsTag text start end
IsBisonLexeme kind.AnyTag text start end =
    Are text start end (codes "<>") ⊎ Are text start end (codes "<*>")
IsBisonLexeme kind.Directive text start end =
    IsWordDirective text start end ⊎ IsShortDirective text start end
IsBisonLexeme kind.Separator text start end =
    Are text start end (codes "%%") ⊎ Are text start end (codes "\\\\")
IsBisonLexeme kind.Action text start end =
    Begins 123 text start × EndsCode Brace text (start + 1) end
IsBisonLexeme kind.Predicate text start end =
    Are text start (start + 2) (codes "%?") × ((brace : ℕ) × IsRun is_white text (start + 2) brace
    × Begins 123 text brace × EndsCode Brace text (brace + 1) end)
IsBisonLexeme kind.Prologue text start end =
    Are text start (start + 2) (codes "%{") × EndsCode PrologueMark text (start + 2) end
IsBisonLexeme kind.Colon text start end = Are text start end (codes ":")
IsBisonLexeme kind.Bar text start end = Are text start end (codes "|")
IsBisonLexeme kind.Semicolon text start end = Are text start end (codes ";")
IsBisonLexeme kind.Equals text start end = Are text start end (codes "=")
IsBisonLexeme _ text start end = ⊥

-- what it is for grmtools
abbrev pub IsGrmtoolsLexeme : LexemeKind → List ℕ → ℕ → ℕ → Type 0
IsGrmtoolsLexeme kind.Name text start end = IsWord is_word_start is_in_word text start end
IsGrmtoolsLexeme kind.Number text start end = IsWord is_ascii_digit is_in_word text start end
IsGrmtoolsLexeme kind.QuotedName text start end =
    IsQuotedName 39 text start end ⊎ IsQuotedName 34 text start end
IsGrmtoolsLexeme kind.QuotedText text start end =
    IsQuotedText 39 text start end ⊎ IsQuotedText 34 text start end
IsGrmtoolsLexeme kind.RuleType text start end = IsRuleType text start end
IsGrmtoolsLexeme kind.Directive text start end = IsNameDirective text start end
IsGrmtoolsLexeme kind.DirectiveLine text start end = IsLineDirective text start end
IsGrmtoolsLexeme kind.Separator text start end = Are text start end (codes "%%")
IsGrmtoolsLexeme kind.Action text start end =
    Begins 123 text start × EndsRustCode text (start + 1) end
IsGrmtoolsLexeme kind.Colon text start end = Are text start end (codes ":")
IsGrmtoolsLexeme kind.Bar text start end = Are text start end (codes "|")
IsGrmtoolsLexeme kind.Semicolon text start end = Are text start end (codes ";")
IsGrmtoolsLexeme _ text start end = ⊥

-- what it is for a dialect
abbrev pub IsLexeme : Dialect → LexemeKind → List ℕ → ℕ → ℕ → Type 0
IsLexeme Bison = IsBisonLexeme
IsLexeme Grmtools = IsGrmtoolsLexeme

-- a lexeme stands in a text
pub record IsLexemeOf (text : List ℕ) (dialect : Dialect) (lexeme : Lexeme) : Type 0 where
  pub some : lexeme.span.start < lexeme.span.end
  pub inside : lexeme.span.end ≤ length text
  pub is : IsLexeme dialect lexeme.kind text lexeme.span.start lexeme.span.end

-- lexemes of a text in their order, from one place on up to another: between them, and before the first, stands what may
abbrev pub AreInOrder : (ℕ → ℕ → Type 0) → List ℕ → Dialect → ℕ → List Lexeme → ℕ → Type 0
AreInOrder MayBeBetween text dialect from [] to = from ≡ to
AreInOrder MayBeBetween text dialect from (lexeme ∷ lexemes) to =
    MayBeBetween from lexeme.span.start × IsLexemeOf text dialect lexeme
    × AreInOrder MayBeBetween text dialect lexeme.span.end lexemes to

-- ---- names of rules

-- whether a lexeme is a name
abbrev pub is_name : LexemeKind → Bool
is_name kind.Name = true
is_name _ = false

-- whether it is a colon
abbrev pub is_colon : LexemeKind → Bool
is_colon kind.Colon = true
is_colon _ = false

-- whether it may stand between the name of a rule and its colon
abbrev pub is_between : LexemeKind → Bool
is_between kind.BracketName = true
is_between kind.RuleType = true
is_between _ = false

-- whether a colon comes first among lexemes
abbrev pub begins_with_colon : List Lexeme → Bool
begins_with_colon [] = false
begins_with_colon (lexeme ∷ lexemes) = is_colon lexeme.kind

-- whether a name before these lexemes is that of a rule: a colon comes first, perhaps behind a name in brackets or a type
abbrev pub follow_rule : List Lexeme → Bool
follow_rule [] = false
follow_rule (lexeme ∷ lexemes) =
    is_colon lexeme.kind || is_between lexeme.kind && begins_with_colon lexemes

-- whether they do once a colon is added behind them
abbrev pub go_before_colon : List Lexeme → Bool
go_before_colon [] = true
go_before_colon (lexeme ∷ []) = is_between lexeme.kind
go_before_colon _ = false

-- a name, as that of a rule
abbrev pub as_rule : Lexeme → Lexeme
as_rule lexeme = record lexeme { kind = kind.RuleName }

-- the lexemes, with the names of rules noted that stand before such as these
abbrev pub with_rules : (List Lexeme → Bool) → List Lexeme → List Lexeme
with_rules follow [] = []
with_rules follow (lexeme ∷ lexemes) =
    (if is_name lexeme.kind && follow lexemes then as_rule lexeme else lexeme)
    ∷ with_rules follow lexemes

-- ---- all lexemes

-- lexemes of a text in their order, none over another; names are noted as those of rules
pub record AreLexemesOf (text : List ℕ) (dialect : Dialect) (lexemes : List Lexeme) : Type 0 where
  pub bare : List Lexeme
  pub last : ℕ
  pub order : AreInOrder (λ end start. end ≤ start) text dialect 0 bare last
  pub named : lexemes ≡ with_rules follow_rule bare
