-- grammars as plain lists: names, precedences and productions
use Rattle.std.specs.Prelude.{◌≡◌, ◌≢◌, ℕ, ◌+◌, ◌<◌, Bool, false, ◌==◌, List, [], ◌∷◌, filter, length, codes, Option, None, Some, slice_get, drop, sum_by}
use Rattle.std.specs.List.{range_with_len}
use Rattle.std.specs.Option.{option_and_then}

-- a symbol of a body, by the number of its rule or token
pub data Symbol : Type 0 where
  Rule : ℕ → Symbol
  Token : ℕ → Symbol

-- a production: its rule and its body, and the token that it names for its precedence, if it names
-- one
pub record Production : Type 0 where
  pub rule : ℕ
  pub body : List Symbol
  pub precedence_token : Option ℕ

-- how operators of one level group
pub data Kind : Type 0 where
  Left Right Nonassoc : Kind

-- the precedence of a token: a higher level binds tighter
pub record Precedence : Type 0 where
  pub level : ℕ
  pub kind : Kind

-- a grammar as plain lists: the names of its rules, and the names and the precedences of its tokens
-- but for the end token; its productions; and which of them is the start production
pub record Grammar : Type 0 where
  pub rule_names : List (List ℕ)
  pub token_names : List (List ℕ)
  pub token_precedences : List (Option Precedence)
  pub productions : List Production
  pub start_production : ℕ

-- the end token comes after the named tokens
abbrev pub end_token : Grammar → ℕ
end_token g = length g.token_names

-- how many tokens there are, the end token among them
abbrev pub token_count : Grammar → ℕ
token_count g = length g.token_names + 1

-- the body of a production, empty without one
abbrev pub body_or_none : Option Production → List Symbol
body_or_none None = []
body_or_none (Some p) = p.body

-- the body of the production `p`, empty where there is none
abbrev pub body_of : Grammar → ℕ → List Symbol
body_of g p = body_or_none (slice_get g.productions p)

-- the rule of a production, 0 without one
abbrev pub rule_or_zero : Option Production → ℕ
rule_or_zero None = 0
rule_or_zero (Some p) = p.rule

-- the rule of the production `p`, 0 where there is none
abbrev pub rule_of : Grammar → ℕ → ℕ
rule_of g p = rule_or_zero (slice_get g.productions p)

-- there is a production, and it is of the rule `r`
abbrev pub IsOfRule : Option Production → ℕ → Type 0
IsOfRule None r = ⊥
IsOfRule (Some p) r = p.rule ≡ r

-- `p` is a production of the rule `r`
abbrev pub IsProductionOf : Grammar → ℕ → ℕ → Type 0
IsProductionOf g p r = IsOfRule (slice_get g.productions p) r

-- whether there is a production, and it is of the rule `r`
abbrev pub is_of_rule : Option Production → ℕ → Bool
is_of_rule None r = false
is_of_rule (Some p) r = p.rule == r

-- the places of the productions of the rule `r` in a list, upwards
abbrev pub places_of_rule : List Production → ℕ → List ℕ
places_of_rule ps r = filter (λ p. is_of_rule (slice_get ps p) r) (range_with_len 0 (length ps))

-- the productions of the rule `r`, upwards
abbrev pub productions_of : Grammar → ℕ → List ℕ
productions_of g r = places_of_rule g.productions r

-- the precedence of the token `t`, if it has one
abbrev pub token_precedence : Grammar → ℕ → Option Precedence
token_precedence g t = option_and_then (λ o. o) (slice_get g.token_precedences t)

-- the last token of the list, or else what is given
abbrev pub last_token_or : Option ℕ → List Symbol → Option ℕ
last_token_or o [] = o
last_token_or o (Rule r ∷ y) = last_token_or o y
last_token_or o (Token t ∷ y) = last_token_or (Some t) y

-- the token that a production names for its precedence, none without a production
abbrev pub named_token_or_none : Option Production → Option ℕ
named_token_or_none None = None
named_token_or_none (Some p) = p.precedence_token

-- the token that the production `p` names for its precedence
abbrev pub named_token_of : Grammar → ℕ → Option ℕ
named_token_of g p = named_token_or_none (slice_get g.productions p)

-- the token that is named, or else the last one of the body
abbrev pub named_or_last : Option ℕ → List Symbol → Option ℕ
named_or_last None y = last_token_or None y
named_or_last (Some t) y = Some t

-- the precedence of the token that the production names, or else of the last one in its body
abbrev pub production_precedence : Grammar → ℕ → Option Precedence
production_precedence g p =
    option_and_then (token_precedence g) (named_or_last (named_token_of g p) (body_of g p))

-- what stands behind the dot `d` in the body of `p`
abbrev pub rest : Grammar → ℕ → ℕ → List Symbol
rest g p d = drop d (body_of g p)

-- how many items there are: for each production the places of its dot, which are one more than its
-- body is long
abbrev pub item_count : Grammar → ℕ
item_count g = sum_by (λ p. length p.body + 1) g.productions

-- the symbol may stand in a body: a rule other than rule 0, or a named token
abbrev pub IsBodySymbol : Grammar → Symbol → Type 0
IsBodySymbol g (Rule r) = (r ≢ 0) × (r < length g.rule_names)
IsBodySymbol g (Token t) = t < length g.token_names

-- each symbol of the list may stand in a body
abbrev pub AreBodySymbols : Grammar → List Symbol → Type 0
AreBodySymbols g [] = Unit {0}
AreBodySymbols g (x ∷ xs) = IsBodySymbol g x × AreBodySymbols g xs

-- the shape that every grammar has
pub record IsGrammar (g : Grammar) : Type 0 where
  -- rule 0 is `^`
  pub caret : slice_get g.rule_names 0 ≡ Some (codes "^")
  -- each named token has a precedence or none
  pub precedences : length g.token_precedences ≡ length g.token_names
  -- the start production comes last
  pub last : g.start_production + 1 ≡ length g.productions
  -- its rule is rule 0 and its body is one rule, the start rule
  pub start :
      (r : ℕ)
      × (slice_get g.productions g.start_production
      ≡ Some (record { rule = 0; body = Rule r ∷ []; precedence_token = None }))
  -- it is the only production of rule 0
  pub only : (p : ℕ) → IsProductionOf g p 0 → p ≡ g.start_production
  -- each production is of a rule
  pub rules : (p r : ℕ) → IsProductionOf g p r → r < length g.rule_names
  -- rule 0 and the end token stand in no body
  pub symbols : (p : ℕ) → AreBodySymbols g (body_of g p)
  -- what a production names for its precedence is a named token
  pub named : (p t : ℕ) → named_token_of g p ≡ Some t → t < length g.token_names
