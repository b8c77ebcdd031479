-- what a document says, the parts that it means, and why a text is refused
use Rattle.std.specs.Prelude.{◌≡◌, ℕ, if◌then◌else◌, not, ◌||◌, IsTrue, List, [], ◌∷◌, ◌++◌, map, Option, None, Some, filter, filter_map, flat_map, find, option_map, slice_get, bytes_eq}
use Rattle.std.specs.List.{enumerate_from}
use Rattle.lrspec.specs.grammars.Grammar.{Symbol, Rule, Token, Kind, Precedence, Production}
use Rattle.lrspec.specs.texts.Parts.{PartToken, Parts}
use Rattle.lrspec.specs.texts.Names.{has_name, has_no_repeats, first_appearances, place_of}
use Rattle.lrspec.specs.texts.Documents.{NameText, Plain, InQuotes, Declaration, StartLine, TokenLine, KindLine, BodyText, RuleText, Document, start_names, Reads, IsSyntaxErrorAt}

-- what a document says, in the order of the text
pub record Contents : Type 0 where
  -- the names behind `%start`, at most one
  pub starts : List (List ℕ)
  -- the names of the `%token` lines
  pub declared : List (List ℕ)
  -- the kinds and the names of the precedence lines
  pub kind_lines : List (Kind × List (List ℕ))
  -- the alternatives of the rules, each with the name of its rule
  pub alternatives : List (List ℕ × BodyText)

-- the name, without its quotes
abbrev pub bare_name : NameText → List ℕ
bare_name (Plain w) = w
bare_name (InQuotes w) = w

-- the names of a `%token` line
abbrev pub token_line_names : Declaration → List (List ℕ)
token_line_names (StartLine w) = []
token_line_names (TokenLine n ns) = map bare_name (n ∷ ns)
token_line_names (KindLine k n ns) = []

-- the kind and the names of a precedence line
abbrev pub kind_line : Declaration → Option (Kind × List (List ℕ))
kind_line (StartLine w) = None
kind_line (TokenLine n ns) = None
kind_line (KindLine k n ns) = Some (k, map bare_name (n ∷ ns))

-- the name of a rule with each of its bodies
abbrev pub alternatives_of : RuleText → List (List ℕ × BodyText)
alternatives_of r = map (λ b. (r.name, b)) (r.first ∷ r.others)

-- what the document says
abbrev pub contents_of : Document → Contents
contents_of d = record {
  starts = start_names d.declarations;
  declared = flat_map token_line_names d.declarations;
  kind_lines = filter_map kind_line d.declarations;
  alternatives = flat_map alternatives_of d.rules;
}

-- ---- the names that are said

-- the rules by first definition
abbrev pub rule_names : Contents → List (List ℕ)
rule_names s = first_appearances (map (λ a. a.0) s.alternatives)

-- the names in the precedence lines
abbrev pub precedence_names : Contents → List (List ℕ)
precedence_names s = flat_map (λ l. l.1) s.kind_lines

-- the names that the declarations make tokens
abbrev pub declared_names : Contents → List (List ℕ)
declared_names s = s.declared ++ precedence_names s

-- the names in the bodies
abbrev pub body_names : Contents → List NameText
body_names s = flat_map (λ a. a.1.names) s.alternatives

-- the name behind `%prec` of an alternative, without its quotes
abbrev pub named_precedence : List ℕ × BodyText → Option (List ℕ)
named_precedence a = option_map bare_name a.1.precedence

-- the names behind `%prec`
abbrev pub named_precedences : Contents → List (List ℕ)
named_precedences s = filter_map named_precedence s.alternatives

-- a quoted name in a body is a token, and a plain one is a token where it is no rule
abbrev pub token_in_body : List (List ℕ) → NameText → Option (List ℕ)
token_in_body rules (Plain w) = if has_name rules w then None else Some w
token_in_body rules (InQuotes w) = Some w

-- the tokens: by the `%token` lines, then by first appearance in bodies, then in precedence lines,
-- then behind `%prec`
abbrev pub token_names : Contents → List (List ℕ)
token_names s =
    first_appearances (s.declared
    ++ filter_map (token_in_body (rule_names s)) (body_names s) ++ precedence_names s
    ++ named_precedences s)

-- ---- the parts of the grammar

-- the names of the precedence line with this number, which is their level
abbrev pub names_at_level : ℕ × (Kind × List (List ℕ)) → List (List ℕ × Precedence)
names_at_level (n, (k, ws)) = map (λ w. (w, record { level = n; kind = k })) ws

-- the precedences that the lines give, which are counted from 0
abbrev pub precedences : Contents → List (List ℕ × Precedence)
precedences s = flat_map names_at_level (enumerate_from 0 s.kind_lines)

-- the precedence of the name, if it has one
abbrev pub precedence_in : List (List ℕ × Precedence) → List ℕ → Option Precedence
precedence_in ps w = option_map (λ p. p.1) (find (λ p. bytes_eq w p.0) ps)

-- a token with its precedence
abbrev pub token_in : List (List ℕ × Precedence) → List ℕ → PartToken
token_in ps w = record { name = w; precedence = precedence_in ps w }

-- the symbol that a name in a body is
abbrev pub symbol_in : List (List ℕ) → List (List ℕ) → NameText → Symbol
symbol_in rules tokens (Plain w) =
    if has_name rules w then Rule (place_of rules w) else Token (place_of tokens w)
symbol_in rules tokens (InQuotes w) = Token (place_of tokens w)

-- the production that an alternative is
abbrev pub production_in : List (List ℕ) → List (List ℕ) → List ℕ × BodyText → Production
production_in rules tokens a =
    record {
      rule = place_of rules a.0;
      body = map (symbol_in rules tokens) a.1.names;
      precedence_token = option_map (place_of tokens) (named_precedence a);
    }

-- the rule of `%start`, or else the first
abbrev pub start_in : List (List ℕ) → List (List ℕ) → ℕ
start_in rules [] = 0
start_in rules (w ∷ ws) = place_of rules w

-- what is meant where no name is unknown or repeated
abbrev pub meant_parts : Contents → Parts
meant_parts s = record {
  rules = rule_names s;
  tokens = map (token_in (precedences s)) (token_names s);
  prods = map (production_in (rule_names s) (token_names s)) s.alternatives;
  start = start_in (rule_names s) s.starts;
}

-- ---- refusals

-- a plain name in a body that is neither a rule nor a token of a declaration
abbrev pub unknown_in_body : List (List ℕ) → List (List ℕ) → NameText → Option (List ℕ)
unknown_in_body rules declared (Plain w) =
    if has_name rules w || has_name declared w then None else Some w
unknown_in_body rules declared (InQuotes w) = None

-- the names that nothing defines: that of `%start` where it is no rule, and those in bodies
abbrev pub unknown_names : Contents → List (List ℕ)
unknown_names s =
    filter (λ w. not (has_name (rule_names s) w)) s.starts
    ++ filter_map (unknown_in_body (rule_names s) (declared_names s)) (body_names s)

-- the first name that comes a second time
pub record IsFirstRepeat (ws : List (List ℕ)) (w : List ℕ) : Type 0 where
  pub before : List (List ℕ)
  pub after : List (List ℕ)
  pub splits : ws ≡ before ++ w ∷ after
  pub second : IsTrue (has_name before w)
  pub first : IsTrue (has_no_repeats before)

-- why a text is refused before its grammar is looked at
pub data TextRefusal : Type 0 where
  Syntax : ℕ → TextRefusal
  UnknownSymbol DuplicatePrecedence : List ℕ → TextRefusal

-- the text is refused: as no document, or by the first unknown name, or by the first token with two
-- precedences
pub data IsRefused (text : List ℕ) : TextRefusal → Type 0 where
  syntax : {n : ℕ} → IsSyntaxErrorAt text n → IsRefused text (Syntax n)
  unknown : {d : Document} {w : List ℕ} → Reads text d
      → slice_get (unknown_names (contents_of d)) 0 ≡ Some w → IsRefused text (UnknownSymbol w)
  repeated : {d : Document} {w : List ℕ} → Reads text d → unknown_names (contents_of d) ≡ []
      → IsFirstRepeat (precedence_names (contents_of d)) w → IsRefused text (DuplicatePrecedence w)

-- the text is a document that isn't refused, and these are the parts of its grammar
pub record Means (text : List ℕ) (p : Parts) : Type 0 where
  pub document : Document
  pub reads : Reads text document
  pub known : unknown_names (contents_of document) ≡ []
  pub once : IsTrue (has_no_repeats (precedence_names (contents_of document)))
  pub parts : meant_parts (contents_of document) ≡ p
