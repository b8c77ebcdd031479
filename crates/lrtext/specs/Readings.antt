-- what was read of a document so far, and what each lexeme adds to it
use Rattle.std.specs.Prelude.{ℕ, List, [], ◌∷◌, ◌++◌, Option, None, Some}
use Rattle.lrspec.specs.grammars.Grammar.{Kind}
use Rattle.lrspec.specs.texts.Lexemes.{Lexeme, Name, Quoted, KindWord, Bar, Semicolon}
use Rattle.lrspec.specs.texts.Documents.{NameText, Plain, InQuotes, BodyText}
use Rattle.lrspec.specs.texts.Meaning.{Contents}
use Rattle.lrspec.specs.texts.ReadingStates.{ReadingState, AtDeclaration, WantsStart, WantsName, InLine, AtRule, WantsColon, InBody, WantsPrecedence, BehindBody, Behind, first_state, next_state}

-- what was read of a document so far: the state, the name of `%start`, the names of the `%token`
-- lines, the precedence lines that are done, the kind and the names of the one in hand, the rule,
-- the body and the name behind `%prec` in hand, and the alternatives that are done
pub record Reading : Type 0 where
  pub state : ReadingState
  pub start : Option (List ℕ)
  pub declared : List (List ℕ)
  pub kind_lines : List (Kind × List (List ℕ))
  pub line : Option Kind
  pub names : List (List ℕ)
  pub rule : List ℕ
  pub body : List NameText
  pub precedence : Option NameText
  pub alternatives : List (List ℕ × BodyText)

-- nothing was read
abbrev pub first_reading : Reading
first_reading =
    record {
      state = first_state;
      start = None;
      declared = [];
      kind_lines = [];
      line = None;
      names = [];
      rule = [];
      body = [];
      precedence = None;
      alternatives = [];
    }

-- a name of the line in hand, which is a `%token` line where it has no kind
abbrev pub named : Option Kind → List ℕ → Reading → Reading
named None w x = record x { declared = x.declared ++ w ∷ [] }
named (Some k) w x = record x { names = x.names ++ w ∷ [] }

-- the end of the line in hand
abbrev pub line_ended : Option Kind → Reading → Reading
line_ended None x = x
line_ended (Some k) x =
    record x { kind_lines = x.kind_lines ++ (k, x.names) ∷ []; line = None; names = [] }

-- what a lexeme adds in the declarations: a name, or the beginning of a declaration or of the
-- first `%%`
abbrev pub declaring : Lexeme → Reading → Reading
declaring (Name w) x = named x.line w x
declaring (Quoted w) x = named x.line w x
declaring (KindWord k) x = record (line_ended x.line x) { line = Some k }
declaring _ x = line_ended x.line x

-- the name behind `%start`
abbrev pub starting : Lexeme → Reading → Reading
starting (Name w) x = record x { start = Some w }
starting _ x = x

-- the name of a rule
abbrev pub naming : Lexeme → Reading → Reading
naming (Name w) x = record x { rule = w }
naming _ x = x

-- the body in hand
abbrev pub body_in_hand : Reading → BodyText
body_in_hand x = record { names = x.body; precedence = x.precedence }

-- the end of an alternative
abbrev pub alternative_ended : Reading → Reading
alternative_ended x =
    record x {
      alternatives = x.alternatives ++ (x.rule, body_in_hand x) ∷ [];
      body = [];
      precedence = None;
    }

-- what a lexeme adds in the bodies of a rule
abbrev pub in_body : Lexeme → Reading → Reading
in_body (Name w) x = record x { body = x.body ++ Plain w ∷ [] }
in_body (Quoted w) x = record x { body = x.body ++ InQuotes w ∷ [] }
in_body Bar x = alternative_ended x
in_body Semicolon x = alternative_ended x
in_body _ x = x

-- the name behind `%prec`
abbrev pub preceding : Lexeme → Reading → Reading
preceding (Name w) x = record x { precedence = Some (Plain w) }
preceding (Quoted w) x = record x { precedence = Some (InQuotes w) }
preceding _ x = x

-- what a lexeme adds in a state
abbrev pub added : ReadingState → Lexeme → Reading → Reading
added (AtDeclaration seen) l x = declaring l x
added WantsStart l x = starting l x
added (WantsName seen) l x = declaring l x
added (InLine seen) l x = declaring l x
added AtRule l x = naming l x
added WantsColon l x = x
added InBody l x = in_body l x
added WantsPrecedence l x = preceding l x
added BehindBody l x = in_body l x
added Behind l x = x

-- a lexeme is added where there is a state behind it
abbrev pub moved : Lexeme → Reading → Option ReadingState → Option Reading
moved l x None = None
moved l x (Some t) = Some (record (added x.state l x) { state = t })

-- what was read behind one more lexeme, if it may come
abbrev pub take_lexeme : Reading → Lexeme → Option Reading
take_lexeme x l = moved l x (next_state x.state l)

-- what was read behind all the lexemes
abbrev pub reading_behind : Reading → List Lexeme → Option Reading
reading_behind x [] = Some x
reading_behind x (l ∷ ls) = elim (take_lexeme x l) [ None ↦ None | Some y ↦ reading_behind y ls ]

-- the name as a list
abbrev pub starts_in : Option (List ℕ) → List (List ℕ)
starts_in None = []
starts_in (Some w) = w ∷ []

-- what the document says, as it was read
abbrev pub contents_in : Reading → Contents
contents_in x =
    record {
      starts = starts_in x.start;
      declared = x.declared;
      kind_lines = x.kind_lines;
      alternatives = x.alternatives;
    }
