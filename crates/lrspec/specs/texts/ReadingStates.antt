-- how far a document was read, lexeme by lexeme, and which lexeme may come next
use Rattle.std.specs.Prelude.{Bool, true, false, if◌then◌else◌, List, [], ◌∷◌, Option, None, Some}
use Rattle.lrspec.specs.texts.Lexemes.{Lexeme, Name, Quoted, StartWord, TokenWord, KindWord, PrecedenceWord, Separator, Colon, Bar, Semicolon}

-- how far a document was read: between which of its lexemes. The flag says whether `%start` came
pub data ReadingState : Type 0 where
  -- at a declaration or the first `%%`
  AtDeclaration : Bool → ReadingState
  -- behind `%start`
  WantsStart : ReadingState
  -- behind the word of a line of tokens, and behind a name of it
  WantsName InLine : Bool → ReadingState
  -- at a rule, the second `%%` or the end
  AtRule : ReadingState
  -- behind the name of a rule, and in its bodies
  WantsColon InBody : ReadingState
  -- behind `%prec`, and behind the name that follows it
  WantsPrecedence BehindBody : ReadingState
  -- behind the second `%%`
  Behind : ReadingState

-- before the first lexeme
abbrev pub first_state : ReadingState
first_state = AtDeclaration false

-- a document may end there
abbrev pub may_end : ReadingState → Bool
may_end AtRule = true
may_end Behind = true
may_end _ = false

-- the state behind the word of a declaration or the first `%%`, if the lexeme is one
abbrev pub declare : Bool → Lexeme → Option ReadingState
declare seen StartWord = if seen then None else Some WantsStart
declare seen TokenWord = Some (WantsName seen)
declare seen (KindWord k) = Some (WantsName seen)
declare seen Separator = Some AtRule
declare seen _ = None

-- the state behind the lexeme, if it may come
abbrev pub next_state : ReadingState → Lexeme → Option ReadingState
next_state (AtDeclaration seen) l = declare seen l
next_state WantsStart (Name w) = Some (AtDeclaration true)
next_state WantsStart _ = None
next_state (WantsName seen) (Name w) = Some (InLine seen)
next_state (WantsName seen) (Quoted w) = Some (InLine seen)
next_state (WantsName seen) _ = None
next_state (InLine seen) (Name w) = Some (InLine seen)
next_state (InLine seen) (Quoted w) = Some (InLine seen)
next_state (InLine seen) l = declare seen l
next_state AtRule (Name w) = Some WantsColon
next_state AtRule Separator = Some Behind
next_state AtRule _ = None
next_state WantsColon Colon = Some InBody
next_state WantsColon _ = None
next_state InBody (Name w) = Some InBody
next_state InBody (Quoted w) = Some InBody
next_state InBody Bar = Some InBody
next_state InBody Semicolon = Some AtRule
next_state InBody PrecedenceWord = Some WantsPrecedence
next_state InBody _ = None
next_state WantsPrecedence (Name w) = Some BehindBody
next_state WantsPrecedence (Quoted w) = Some BehindBody
next_state WantsPrecedence _ = None
next_state BehindBody Bar = Some InBody
next_state BehindBody Semicolon = Some AtRule
next_state BehindBody _ = None
next_state Behind l = Some Behind

-- the state behind all the lexemes, if each may come
abbrev pub state_behind : ReadingState → List Lexeme → Option ReadingState
state_behind s [] = Some s
state_behind s (l ∷ ls) = elim (next_state s l) [ None ↦ None | Some t ↦ state_behind t ls ]
