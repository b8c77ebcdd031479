-- the parts of a grammar as a caller gives them, their grammar, and the causes of their refusal
use Rattle.std.specs.Prelude.{◌≡◌, ◌≢◌, ℕ, ◌+◌, ◌<◌, ◌≤◌, ◌⊎◌, List, [], ◌∷◌, ◌++◌, map, length, codes, Option, None, Some, slice_index_or, All, Any, Contains}
use Rattle.lrspec.specs.grammars.Grammar.{Symbol, Rule, Token, Production, Precedence, Grammar}

-- a token as it is given: its name, and its precedence or none
pub record PartToken : Type 0 where
  pub name : List ℕ
  pub precedence : Option Precedence

-- what a grammar is made of: the names of its rules, its tokens, its productions, and its start
-- rule; the productions and the start name a rule or a token by its place in these lists
pub record Parts : Type 0 where
  pub rules : List (List ℕ)
  pub tokens : List PartToken
  pub prods : List Production
  pub start : ℕ

abbrev pub names_of : List PartToken → List (List ℕ)
names_of ts = map (λ t. t.name) ts

abbrev pub precedences_of : List PartToken → List (Option Precedence)
precedences_of ts = map (λ t. t.precedence) ts

-- rule 0 is `^`, so that each rule of the parts is one further on; tokens keep their places
abbrev pub shifted : Symbol → Symbol
shifted (Rule r) = Rule (r + 1)
shifted (Token t) = Token t

abbrev pub shifted_production : Production → Production
shifted_production p =
    record {
      rule = p.rule + 1;
      body = map shifted p.body;
      precedence_token = p.precedence_token;
    }

-- the start production: rule 0 is the start rule
abbrev pub start_production_of : Parts → Production
start_production_of ps =
    record { rule = 0; body = Rule (ps.start + 1) ∷ []; precedence_token = None }

-- the grammar of the parts: the rule `^` first, the start production last
abbrev pub grammar_of_parts : Parts → Grammar
grammar_of_parts ps =
    record {
      rule_names = codes "^" ∷ ps.rules;
      token_names = names_of ps.tokens;
      token_precedences = precedences_of ps.tokens;
      productions = map shifted_production ps.prods ++ start_production_of ps ∷ [];
      start_production = length ps.prods;
    }

-- 1: the rules and `^` are too many
abbrev pub TooManyRules : ℕ → Parts → Type 0
TooManyRules most ps = most < length ps.rules + 1

-- 2: the tokens and the end token are too many
abbrev pub TooManyTokens : ℕ → Parts → Type 0
TooManyTokens most ps = most < length ps.tokens + 1

-- 3: the productions and the start production are too many
abbrev pub TooManyProductions : ℕ → Parts → Type 0
TooManyProductions most ps = most < length ps.prods + 1

-- 4: a body has too many symbols
abbrev pub BodyTooLong : ℕ → Parts → Type 0
BodyTooLong most ps = Any (λ p. most < length p.body) ps.prods

-- the symbol stands in no list of the parts
abbrev pub IsOutOfRange : Parts → Symbol → Type 0
IsOutOfRange ps (Rule r) = length ps.rules ≤ r
IsOutOfRange ps (Token t) = length ps.tokens ≤ t

-- the token that is named for a precedence, if one is, stands in no list of the parts
abbrev pub IsNamedOutOfRange : Parts → Option ℕ → Type 0
IsNamedOutOfRange ps None = ⊥
IsNamedOutOfRange ps (Some t) = IsOutOfRange ps (Token t)

-- the rule of the production, a symbol of its body, or the token that it names is in no list
abbrev pub HasOutOfRange : Parts → Production → Type 0
HasOutOfRange ps p =
    (length ps.rules ≤ p.rule) ⊎ (Any (IsOutOfRange ps) p.body
    ⊎ IsNamedOutOfRange ps p.precedence_token)

-- 5: a production names a rule or a token that is in no list
abbrev pub SymbolOutOfRange : Parts → Type 0
SymbolOutOfRange ps = Any (HasOutOfRange ps) ps.prods

-- 6: a rule has no production
abbrev pub EmptyRule : Parts → Type 0
EmptyRule ps = (r : ℕ) × (r < length ps.rules) × All (λ p. p.rule ≢ r) ps.prods

-- 7: a rule is named `^`
abbrev pub ReservedName : Parts → Type 0
ReservedName ps = Contains ps.rules (codes "^")

-- two places of the list have one name
abbrev pub HasDouble : List (List ℕ) → Type 0
HasDouble names =
    (i j : ℕ) × (i < j) × (j < length names)
    × (slice_index_or names i [] ≡ slice_index_or names j [])

-- 8: two rules or two tokens share a name
abbrev pub DuplicateName : Parts → Type 0
DuplicateName ps = HasDouble ps.rules ⊎ HasDouble (names_of ps.tokens)

-- one level, two kinds
abbrev pub AreMixed : Precedence → Precedence → Type 0
AreMixed a b = (a.level ≡ b.level) × (a.kind ≢ b.kind)

-- two of the precedences are of one level and of different kinds
abbrev pub HasMixed : List (Option Precedence) → Type 0
HasMixed os = (a b : Precedence) × Contains os (Some a) × Contains os (Some b) × AreMixed a b

-- 9: two tokens of one level have different kinds
abbrev pub MixedLevel : Parts → Type 0
MixedLevel ps = HasMixed (precedences_of ps.tokens)

-- 10: the start rule is in no list
abbrev pub NoStart : Parts → Type 0
NoStart ps = length ps.rules ≤ ps.start

-- the causes of refusal by their numbers
pub data Cause (most : ℕ) (ps : Parts) : ℕ → Type 0 where
  too_many_rules : TooManyRules most ps → Cause most ps 1
  too_many_tokens : TooManyTokens most ps → Cause most ps 2
  too_many_productions : TooManyProductions most ps → Cause most ps 3
  body_too_long : BodyTooLong most ps → Cause most ps 4
  symbol_out_of_range : SymbolOutOfRange ps → Cause most ps 5
  empty_rule : EmptyRule ps → Cause most ps 6
  reserved_name : ReservedName ps → Cause most ps 7
  duplicate_name : DuplicateName ps → Cause most ps 8
  mixed_level : MixedLevel ps → Cause most ps 9
  no_start : NoStart ps → Cause most ps 10

-- nothing stands against a grammar of the parts
abbrev pub NoCause : ℕ → Parts → Type 0
NoCause most ps = (n : ℕ) → Cause most ps n → ⊥

-- the parts are refused by the cause `n`: it holds, and none of a lesser number does
pub record IsRefusal (most : ℕ) (ps : Parts) (n : ℕ) : Type 0 where
  pub holds : Cause most ps n
  pub least : (m : ℕ) → m < n → Cause most ps m → ⊥
