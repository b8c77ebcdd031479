-- which token the production of a body names for its precedence
use Rattle.std.specs.Prelude.{◌≡◌, ℕ, ◌+◌, ◌*◌, ◌++◌, Bool, true, false, List, [], ◌∷◌, Option, None, Some, IsSomeAnd, slice_get}
use Rattle.lrgrammar.specs.declared.grammar.PartSymbol.TheVariants.{Rule, Token}
use Rattle.lrgrammar.specs.declared.grammar.Precedence.{Precedence}
use Rattle.lryacc.specs.declared.contents.BodyPart.{BodyPart}
use Rattle.lryacc.specs.declared.contents.BodyPart.TheVariants as part
use Rattle.lryacc.specs.declared.contents.LevelKind.{LevelKind}
use Rattle.lryacc.specs.declared.contents.LevelKind.TheVariants as line
use Rattle.lryacc.specs.declared.lexemes.Lexeme.{Lexeme}
use Rattle.lryacc.specs.NamedSymbols.{IsNamed, Names}

-- whether a line is one of `%precedence`
abbrev pub is_precedence : LevelKind → Bool
is_precedence line.Precedence = true
is_precedence _ = false

-- the symbol that a lexeme names stands in a `%precedence` line, before which so many lines begin
pub record IsInPrecedenceLine (names : Names) (lexeme : Lexeme) (before : ℕ) : Type 0 where
  pub number : ℕ
  pub names_it : names.number lexeme ≡ Some number
  pub in_line : names.line number ≡ Some (before + 1)
  pub is : slice_get names.lines before ≡ Some line.Precedence

-- it stands in none
abbrev pub IsInNoPrecedenceLine : Names → Lexeme → Type 0
IsInNoPrecedenceLine names lexeme = (before : ℕ) → ¬ IsInPrecedenceLine names lexeme before

-- a token has this level
pub record HasLevel (precedences : List (Option Precedence)) (level token : ℕ) : Type 0 where
  pub precedence : Precedence
  pub here : slice_get precedences token ≡ Some (Some precedence)
  pub is : precedence.level ≡ level

-- the token by which a body has the precedence of a symbol of a `%precedence` line, if it stands in such a line: its level is
-- right below that of the line, which resolves nothing between its own tokens and such bodies
abbrev pub IsBelowOf : Names → Lexeme → Option ℕ → Type 0
IsBelowOf names lexeme None = IsInNoPrecedenceLine names lexeme
IsBelowOf names lexeme (Some token) =
    (before : ℕ) × IsInPrecedenceLine names lexeme before
    × HasLevel names.precedences (before * 2 + 1) token

-- the token that a body names by `%prec`
pub data IsPrecedenceBy (names : Names) (lexeme : Lexeme) : ℕ → Type 0 where
  -- the one that stands behind it,
  itself : {token : ℕ} → IsNamed names lexeme (Token token) → IsBelowOf names lexeme None
      → IsPrecedenceBy names lexeme token
  -- or that below its `%precedence` line
  below : {token : ℕ} → IsBelowOf names lexeme (Some token) → IsPrecedenceBy names lexeme token

-- the lexeme of the last token among parts of a body, if there is one
pub data IsLastToken (names : Names) : List BodyPart → Option Lexeme → Type 0 where
  -- among no parts there is none
  none : IsLastToken names [] None
  -- a token is the last one so far,
  token : {parts : List BodyPart} {last : Option Lexeme} {token : ℕ} (lexeme : Lexeme)
      → IsLastToken names parts last → IsNamed names lexeme (Token token)
      → IsLastToken names (parts ++ part.Symbol lexeme ∷ []) (Some lexeme)
  -- and stays so before rules,
  rule : {parts : List BodyPart} {last : Option Lexeme} {rule : ℕ} (lexeme : Lexeme)
      → IsLastToken names parts last → IsNamed names lexeme (Rule rule)
      → IsLastToken names (parts ++ part.Symbol lexeme ∷ []) last
  -- and before actions
  action : {parts : List BodyPart} {last : Option Lexeme} (action : Lexeme)
      (name : Option Lexeme) → IsLastToken names parts last
      → IsLastToken names (parts ++ part.Action action name ∷ []) last

-- with one more part the last token is this one
abbrev pub IsLastWith : Names → BodyPart → Option Lexeme → Option Lexeme → Type 0
IsLastWith names more last next =
    (parts : List BodyPart) → IsLastToken names parts last
    → IsLastToken names (parts ++ more ∷ []) next

-- the token that a body without `%prec` names, if it names one: where it names none, it has the precedence of its last token
pub data IsPrecedenceWithout (names : Names) (parts : List BodyPart) : Option ℕ → Type 0 where
  -- one without a level, where bodies without `%prec` have no precedence
  no_level : {token : ℕ} → names.has_default ≡ false
      → slice_get names.precedences token ≡ Some None
      → IsPrecedenceWithout names parts (Some token)
  -- none, where it has no token
  no_token : names.has_default ≡ true → IsLastToken names parts None
      → IsPrecedenceWithout names parts None
  -- none, or that below the `%precedence` line of its last token
  last : {lexeme : Lexeme} {token : Option ℕ} → names.has_default ≡ true
      → IsLastToken names parts (Some lexeme) → IsBelowOf names lexeme token
      → IsPrecedenceWithout names parts token

-- the token that a body of these parts names for its precedence, by the symbol behind its `%prec` if it has one
abbrev pub IsPrecedence : Names → Option Lexeme → List BodyPart → Option ℕ → Type 0
IsPrecedence names (Some lexeme) parts named = IsSomeAnd named (IsPrecedenceBy names lexeme)
IsPrecedence names None parts named = IsPrecedenceWithout names parts named
