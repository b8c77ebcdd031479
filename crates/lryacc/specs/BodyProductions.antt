-- the productions of the bodies of a file
use Rattle.std.specs.Prelude.{◌≡◌, ℕ, ◌-◌, ◌⊎◌, ◌++◌, Bool, true, false, cond, List, [], ◌∷◌, Option, None, Some, codes, decimal, length, nat_eq, slice_get}
use Rattle.lrgrammar.specs.declared.grammar.PartProd.{PartProd}
use Rattle.lrgrammar.specs.declared.grammar.PartSymbol.{PartSymbol}
use Rattle.lrgrammar.specs.declared.grammar.PartSymbol.TheVariants.{Rule, Token}
use Rattle.lryacc.specs.declared.contents.Alternative.{Alternative}
use Rattle.lryacc.specs.declared.contents.BodyPart.{BodyPart}
use Rattle.lryacc.specs.declared.contents.BodyPart.TheVariants as part
use Rattle.lryacc.specs.declared.lexemes.Lexeme.{Lexeme}
use Rattle.lryacc.specs.declared.productions.Productions.{Productions}
use Rattle.lryacc.specs.BodyPrecedences.{IsPrecedence}
use Rattle.lryacc.specs.NamedSymbols.{IsNamed, IsTextOf, Names, name_of}
use Rattle.lryacc.specs.ProductionPlaces.{parts_before_last}

-- two lists of the same length, whose elements are related one by one
pub data AreRelated {A B : Type 0} (R : A → B → Type 0) : List A → List B → Type 0 where
  none : AreRelated R [] []
  more : {xs : List A} {ys : List B} (x : A) (y : B) → AreRelated R xs ys → R x y
      → AreRelated R (xs ++ x ∷ []) (ys ++ y ∷ [])

-- a list of what the elements of another list make, one after another
pub data AreMade {A B : Type 0} (R : A → List B → Type 0) : List A → List B → Type 0 where
  none : AreMade R [] []
  more : {xs : List A} {ys : List B} (x : A) (made : List B) → AreMade R xs ys → R x made
      → AreMade R (xs ++ x ∷ []) (ys ++ made)

-- whether a part is an action
abbrev pub is_action_part : Option BodyPart → Bool
is_action_part (Some (part.Action action name)) = true
is_action_part _ = false

-- the parts of a body that are symbols of its production: all but an action at its end
abbrev pub symbol_parts : Alternative → List BodyPart
symbol_parts body =
    cond (is_action_part (slice_get body.parts.items (length body.parts.items - 1)))
    (parts_before_last body) body.parts.items

-- the name of the rule of an action, which no name of a file is: `@` where its value is used, and else `$@`, before a number
abbrev pub IsActionName : List ℕ → Type 0
IsActionName text =
    (number : ℕ)
    × ((text ≡ codes "@" ++ decimal number) ⊎ (text ≡ codes "$@" ++ decimal number))

-- the rule of an action that begins at a place: it stands there, and has a name of such rules
pub record IsActionRule (names : Names) (start rule : ℕ) : Type 0 where
  pub place : slice_get names.starts rule ≡ Some start
  pub text : List ℕ
  pub here : slice_get names.rules rule ≡ Some text
  pub is : IsActionName text

-- the rule of an action, which no other action has, and no name of the file
abbrev pub IsRuleOfAction : Names → Lexeme → ℕ → Type 0
IsRuleOfAction names action rule = IsActionRule names action.span.start rule

-- the symbol of an action
abbrev pub IsOfAction : Names → Lexeme → PartSymbol → Type 0
IsOfAction names action (Rule rule) = IsRuleOfAction names action rule
IsOfAction names action (Token token) = ⊥

-- the symbol of a part of a body
abbrev pub IsOfPart : Names → BodyPart → PartSymbol → Type 0
IsOfPart names (part.Symbol lexeme) symbol = IsNamed names lexeme symbol
IsOfPart names (part.Action action name) symbol = IsOfAction names action symbol

-- the empty production of an action
pub record IsEmptyProduction (names : Names) (action : Lexeme) (prod : PartProd) : Type 0 where
  pub rule : IsRuleOfAction names action prod.rule
  pub symbols : prod.symbols.items ≡ []
  pub precedence : prod.precedence ≡ None

-- the empty production of a part before the end of a body, if that is an action
abbrev pub IsOfPartBefore : Names → BodyPart → List PartProd → Type 0
IsOfPartBefore names (part.Symbol lexeme) prods = prods ≡ []
IsOfPartBefore names (part.Action action name) prods =
    (prod : PartProd) × IsEmptyProduction names action prod × (prods ≡ prod ∷ [])

-- the empty productions of the actions among parts of a body, in their order
abbrev pub AreOfActions : Names → List BodyPart → List PartProd → Type 0
AreOfActions names = AreMade (IsOfPartBefore names)

-- the productions of a body: those of the actions before its last part, and then its own, which has the rule that stands before
-- the colon, a symbol for each part, and its precedence
pub record AreOfBody (names : Names) (body : Alternative) (prods : List PartProd) : Type 0 where
  pub of_actions : List PartProd
  pub own : PartProd
  pub all : prods ≡ of_actions ++ own ∷ []
  pub actions : AreOfActions names (parts_before_last body) of_actions
  pub rule : IsNamed names body.rule (Rule own.rule)
  pub symbols : AreRelated (IsOfPart names) (symbol_parts body) own.symbols.items
  pub precedence : IsPrecedence names body.precedence body.parts.items own.precedence

-- the productions of bodies, in their order
abbrev pub AreOfBodies : Names → List Alternative → List PartProd → Type 0
AreOfBodies names = AreMade (AreOfBody names)

-- the name of the token before a start rule of that name
abbrev pub IsMarkName : List ℕ → List ℕ → Type 0
IsMarkName name text =
    (inner : List ℕ) × IsTextOf name inner × (text ≡ codes "YY_PARSE_" ++ inner)

-- a token is the mark of a start rule: it stands in the grammar by the name of that rule behind `YY_PARSE_`
pub record IsMarkOf (names : Names) (start : Lexeme) (mark : ℕ) : Type 0 where
  pub text : List ℕ
  pub here : slice_get names.tokens mark ≡ Some text
  pub is : IsMarkName (name_of names.text names.dialect start) text

-- a start rule has a mark where it is not the only one
abbrev pub IsMark : Names → Bool → Lexeme → Option ℕ → Type 0
IsMark names true start mark = mark ≡ None
IsMark names false start mark = (token : ℕ) × (mark ≡ Some token) × IsMarkOf names start token

-- the symbols of the production of a start rule: that rule and the end token, behind its mark if it has one
abbrev pub start_symbols_of : PartSymbol → Option ℕ → List PartSymbol
start_symbols_of start None = start ∷ Token 0 ∷ []
start_symbols_of start (Some mark) = Token mark ∷ start ∷ Token 0 ∷ []

-- the production of a start rule with this mark
pub record IsMarked (names : Names) (start : Lexeme) (mark : Option ℕ) (prod : PartProd)
    : Type 0 where
  pub rule : prod.rule ≡ 0
  pub symbol : PartSymbol
  pub named : IsNamed names start symbol
  pub symbols : prod.symbols.items ≡ start_symbols_of symbol mark
  pub precedence : prod.precedence ≡ None

-- the production of a start rule, which may be the only one
pub record IsOfStart (names : Names) (only : Bool) (start : Lexeme) (prod : PartProd)
    : Type 0 where
  pub mark : Option ℕ
  pub is_mark : IsMark names only start mark
  pub marked : IsMarked names start mark prod

-- whether there is one start rule alone
abbrev pub is_one : List Lexeme → Bool
is_one starts = nat_eq (length starts) 1

-- the productions of a file: those of the start rules, and then those of the bodies
pub record AreOfFile (names : Names) (starts : List Lexeme) (bodies : List Alternative)
    (prods : List PartProd) : Type 0 where
  pub of_starts : List PartProd
  pub of_bodies : List PartProd
  pub all : prods ≡ of_starts ++ of_bodies
  pub first : AreRelated (IsOfStart names (is_one starts)) starts of_starts
  pub behind : AreOfBodies names bodies of_bodies

-- a list has what another has, at the same places
abbrev pub Keeps : {A : Type 0} → List A → List A → Type 0
Keeps {A} xs ys = (n : ℕ) (x : A) → slice_get xs n ≡ Some x → slice_get ys n ≡ Some x

-- the marks of start rules: none where there is one start rule alone, and else one for each
abbrev pub AreMarks : Names → Bool → List Lexeme → List ℕ → Type 0
AreMarks names true starts marks = marks ≡ []
AreMarks names false starts marks = AreRelated (IsMarkOf names) starts marks

-- productions are added that are so
pub record AddsProductions (old new : Productions) (P : List PartProd → Type 0) : Type 0 where
  pub added : List PartProd
  pub prods : new.prods.items ≡ old.prods.items ++ added
  pub are : P added

-- a production is added that is so
pub record AddsProduction (old new : Productions) (P : PartProd → Type 0) : Type 0 where
  pub prod : PartProd
  pub prods : new.prods.items ≡ old.prods.items ++ prod ∷ []
  pub is : P prod
