-- the rules and tokens that were numbered so far
use Rattle.std.specs.Prelude.{◌≡◌, ℕ, ◌<◌, ◌+◌, ◌*◌, length, List, Contains, Option, None, Some, codes, slice_get}
use Rattle.std.specs.BTreeMap.{get}
use Rattle.std.specs.Option.{option_map, option_or}
use Rattle.std.specs.Ordering.{nat_cmp}
use Rattle.lrgrammar.specs.declared.grammar.PartSymbol.{PartSymbol}
use Rattle.lrgrammar.specs.declared.grammar.PartSymbol.TheVariants.{Rule, Token}
use Rattle.lrgrammar.specs.declared.grammar.Precedence.{Precedence}
use Rattle.lryacc.specs.declared.contents.Statement.{Statement}
use Rattle.lryacc.specs.declared.contents.Statement.TheVariants as says
use Rattle.lryacc.specs.declared.lexemes.Lexeme.{Lexeme}
use Rattle.lryacc.specs.declared.numbering.Numbering.{Numbering}
use Rattle.lryacc.specs.BodyPrecedences.{HasLevel}
use Rattle.lryacc.specs.BodyProductions.{IsActionRule}
use Rattle.lryacc.specs.NamedSymbols.{IsRuleOf, IsTokenOf, Names, names_in}

-- no two numbers have the same
abbrev pub AreOwn : (ℕ → Option ℕ) → Type 0
AreOwn of =
    (number other value : ℕ) → of number ≡ Some value → of other ≡ Some value → number ≡ other

-- what numbers have is less than that
abbrev pub AreBefore : (ℕ → Option ℕ) → ℕ → Type 0
AreBefore of next = (number value : ℕ) → of number ≡ Some value → value < next

-- each rule and each token that a number has is that of the symbol of that number, and of no other, or that of the action that
-- begins there; rule 0 is `$accept`
pub record AreNumbered (names : Names) (rules tokens actions : ℕ → Option ℕ) : Type 0 where
  pub of_rules : (number rule : ℕ) → rules number ≡ Some rule → IsRuleOf names number rule
  pub of_tokens : (number token : ℕ) → tokens number ≡ Some token → IsTokenOf names number token
  pub rules_apart : AreOwn rules
  pub tokens_apart : AreOwn tokens
  pub of_actions : (start rule : ℕ) → actions start ≡ Some rule → IsActionRule names start rule
  pub placed : length names.starts ≡ length names.rules
  pub accept : slice_get names.rules 0 ≡ Some (codes "$accept")

-- the rule or token that the symbol of a number is: its rule, if it has one
abbrev pub symbol_by : (ℕ → Option ℕ) → (ℕ → Option ℕ) → ℕ → Option PartSymbol
symbol_by rules tokens number =
    option_or (option_map Rule (rules number)) (option_map Token (tokens number))

-- the same of a numbering
abbrev pub symbol_in : Numbering → ℕ → Option PartSymbol
symbol_in numbering =
    symbol_by (get nat_cmp numbering.rules) (get nat_cmp numbering.tokens)

-- the names of a numbering
abbrev pub names_of : Numbering → Names
names_of numbering =
    names_in numbering.meaning.now numbering.contents.now (symbol_in numbering) numbering.grammar

-- the same of all that was numbered
abbrev pub IsNumbered : Numbering → Type 0
IsNumbered numbering =
    AreNumbered (names_of numbering) (get nat_cmp numbering.rules) (get nat_cmp numbering.tokens)
    (get nat_cmp numbering.actions)

-- the token below each line has its level, and the one without a level has none; lines go by how many begin before them
pub record AreLevelled (precedences : List (Option Precedence)) (below : ℕ → Option ℕ)
    (without : Option ℕ) : Type 0 where
  pub of_below : (before token : ℕ) → below before ≡ Some token
      → HasLevel precedences (before * 2 + 1) token
  pub of_without : (token : ℕ) → without ≡ Some token → slice_get precedences token ≡ Some None

-- the same of all that was numbered
abbrev pub IsLevelled : Numbering → Type 0
IsLevelled numbering =
    AreLevelled (names_of numbering).precedences (get nat_cmp numbering.below)
    numbering.without_level

-- the end of a file has token 0, and no other number has it; where there is none, that is called `$end`, and has no precedence
pub record IsEndFirst (names : Names) (tokens : ℕ → Option ℕ) : Type 0 where
  pub some : (text : List ℕ) × (slice_get names.tokens 0 ≡ Some text)
  pub no_other : (number : ℕ) → tokens number ≡ Some 0 → names.end ≡ Some number
  pub given : (number : ℕ) → names.end ≡ Some number → tokens number ≡ Some 0
  pub unnamed : names.end ≡ None → slice_get names.tokens 0 ≡ Some (codes "$end")
  pub no_level : names.end ≡ None → slice_get names.precedences 0 ≡ Some None

-- the same of a numbering
abbrev pub BeginsWithEnd : Numbering → Type 0
BeginsWithEnd numbering = IsEndFirst (names_of numbering) (get nat_cmp numbering.tokens)

-- rules and tokens are added
pub record AddsNumbers (old new : Numbering) : Type 0 where
  pub meaning : new.meaning.now ≡ old.meaning.now
  pub contents : new.contents.now ≡ old.contents.now
  pub numbered : IsNumbered old → IsNumbered new
  pub levelled : IsLevelled old → IsLevelled new
  pub end : BeginsWithEnd old → BeginsWithEnd new
  pub rules : (number rule : ℕ) → get nat_cmp old.rules number ≡ Some rule
      → get nat_cmp new.rules number ≡ Some rule

-- the symbol that a lexeme names has a rule
abbrev pub HasRule : Numbering → Lexeme → Type 0
HasRule numbering lexeme =
    (number : ℕ) → (names_of numbering).number lexeme ≡ Some number
    → (rule : ℕ) × (get nat_cmp numbering.rules number ≡ Some rule)

-- it has one where a declaration says that it is a rule
abbrev pub HasItsRule : Numbering → Statement → Type 0
HasItsRule numbering statement =
    (lexeme : Lexeme) → statement ≡ says.Rule lexeme → HasRule numbering lexeme

-- the same of some declarations
abbrev pub HaveRules : List Statement → Numbering → Type 0
HaveRules statements numbering =
    (lexeme : Lexeme) → Contains statements (says.Rule lexeme) → HasRule numbering lexeme

-- a symbol is given a token, unless it has one
pub record GivesToken (old new : Numbering) (number token : ℕ) : Type 0 where
  pub meaning : new.meaning.now ≡ old.meaning.now
  pub contents : new.contents.now ≡ old.contents.now
  pub rules : new.rules ≡ old.rules
  pub numbered : IsTokenOf (names_of old) number token → AreBefore (get nat_cmp old.tokens) token
      → IsNumbered old → IsNumbered new
  pub levelled : IsLevelled old → IsLevelled new
  pub end : 0 < token → BeginsWithEnd old → BeginsWithEnd new
