-- documents as lists of lexemes, the texts that are documents, and where a text stops being one
use Rattle.std.specs.Prelude.{◌≡◌, ℕ, ◌≤◌, List, [], ◌∷◌, ◌++◌, length, map, Option, None, Some, filter_map, flat_map}
use Rattle.lrspec.specs.grammars.Grammar.{Kind}
use Rattle.lrspec.specs.texts.Lexemes.{Lexeme, Name, Quoted, StartWord, TokenWord, KindWord, PrecedenceWord, Separator, Colon, Bar, Semicolon, Placed, HasLexemes}

-- a name of a document, as it is or between quotes
pub data NameText : Type 0 where
  Plain InQuotes : List ℕ → NameText

-- a declaration; a line of tokens has a first name, and others
pub data Declaration : Type 0 where
  StartLine : List ℕ → Declaration
  TokenLine : NameText → List NameText → Declaration
  KindLine : Kind → NameText → List NameText → Declaration

-- a body: its names, and the name behind `%prec` where it has one
pub record BodyText : Type 0 where
  pub names : List NameText
  pub precedence : Option NameText

-- a rule: its name, its first body, and its other bodies
pub record RuleText : Type 0 where
  pub name : List ℕ
  pub first : BodyText
  pub others : List BodyText

-- a document: declarations and rules, and behind a second `%%` anything
pub record Document : Type 0 where
  pub declarations : List Declaration
  pub rules : List RuleText
  pub behind : Option (List Lexeme)

-- the lexemes of each part of a document
abbrev pub name_lexeme : NameText → Lexeme
name_lexeme (Plain w) = Name w
name_lexeme (InQuotes w) = Quoted w

-- a declaration
abbrev pub declaration_lexemes : Declaration → List Lexeme
declaration_lexemes (StartLine w) = StartWord ∷ Name w ∷ []
declaration_lexemes (TokenLine n ns) = TokenWord ∷ map name_lexeme (n ∷ ns)
declaration_lexemes (KindLine k n ns) = KindWord k ∷ map name_lexeme (n ∷ ns)

-- `%prec` and the name behind it
abbrev pub precedence_lexemes : Option NameText → List Lexeme
precedence_lexemes None = []
precedence_lexemes (Some n) = PrecedenceWord ∷ name_lexeme n ∷ []

-- a body
abbrev pub body_lexemes : BodyText → List Lexeme
body_lexemes b = map name_lexeme b.names ++ precedence_lexemes b.precedence

-- a body that is not the first
abbrev pub other_body_lexemes : BodyText → List Lexeme
other_body_lexemes b = Bar ∷ body_lexemes b

-- a rule
abbrev pub rule_lexemes : RuleText → List Lexeme
rule_lexemes r =
    Name r.name ∷ Colon
    ∷ (body_lexemes r.first ++ (flat_map other_body_lexemes r.others ++ Semicolon ∷ []))

-- what stands behind the second `%%`
abbrev pub behind_lexemes : Option (List Lexeme) → List Lexeme
behind_lexemes None = []
behind_lexemes (Some ls) = Separator ∷ ls

-- the whole
abbrev pub document_lexemes : Document → List Lexeme
document_lexemes d =
    flat_map declaration_lexemes d.declarations ++ Separator
    ∷ (flat_map rule_lexemes d.rules ++ behind_lexemes d.behind)

-- the name behind a `%start`
abbrev pub start_of : Declaration → Option (List ℕ)
start_of (StartLine w) = Some w
start_of (TokenLine n ns) = None
start_of (KindLine k n ns) = None

-- the names behind `%start`
abbrev pub start_names : List Declaration → List (List ℕ)
start_names ds = filter_map start_of ds

-- the document has these lexemes, and `%start` stands in it at most once
pub record IsDocumentOf (d : Document) (ls : List Lexeme) : Type 0 where
  pub lexemes : document_lexemes d ≡ ls
  pub one_start : length (start_names d.declarations) ≤ 1

-- the lexemes are a document
abbrev pub IsDocument : List Lexeme → Type 0
IsDocument ls = (d : Document) × IsDocumentOf d ls

-- a document begins with the lexemes
abbrev pub IsBeginning : List Lexeme → Type 0
IsBeginning ls = (more : List Lexeme) × IsDocument (ls ++ more)

-- the lexemes without their places
abbrev pub lexemes_of : List Placed → List Lexeme
lexemes_of ps = map (λ p. p.lexeme) ps

-- the text is the document
pub record Reads (text : List ℕ) (d : Document) : Type 0 where
  pub placed : List Placed
  pub has : HasLexemes text 0 placed
  pub is : IsDocumentOf d (lexemes_of placed)

-- where a text stops being a document: at its first lexeme with which no document begins, or else,
-- if its lexemes are a beginning and not a whole document, at its end
pub data IsSyntaxErrorAt (text : List ℕ) : ℕ → Type 0 where
  at_lexeme : (before after : List Placed) (p : Placed) → HasLexemes text 0 (before ++ p ∷ after)
      → IsBeginning (lexemes_of before) → (IsBeginning (lexemes_of before ++ p.lexeme ∷ []) → ⊥)
      → IsSyntaxErrorAt text p.place
  at_end : {placed : List Placed} → HasLexemes text 0 placed → IsBeginning (lexemes_of placed)
      → (IsDocument (lexemes_of placed) → ⊥) → IsSyntaxErrorAt text (length text)
