-- the tokens that a line names, by words between blanks: a name in which blanks stand takes several
use Rattle.std.specs.Prelude.{◌≡◌, ℕ, ◌<◌, nat_lt, List, [], ◌∷◌, ◌++◌, All, length, slice_get, string_bytes, bytes_eq, Option, None, Some, option_map, if◌then◌else◌}
use Rattle.std.specs.List.{filter_map, range_with_len}
use Rattle.lrspec.specs.grammars.Grammar.{Grammar, end_token}
use Rattle.lrspec.specs.texts.Lines.{words}
use Rattle.lryacc.specs.declared.numbering.FileGrammar.{FileGrammar}
use Rattle.lrparsing.specs.declared.spellings.Spelling.{Spelling}

-- ---- how tokens are named

-- the name of a token of a file, with its number
abbrev pub named_token : FileGrammar → ℕ → Option (List ℕ × ℕ)
named_token file t = option_map (λ token. (string_bytes token.name, t)) (slice_get file.parts.tokens.items t)

-- those of its first tokens, so many
abbrev pub named_tokens : FileGrammar → ℕ → List (List ℕ × ℕ)
named_tokens file count = filter_map (named_token file) (range_with_len 0 count)

-- a spelling: a name, and the number of its token
abbrev pub spelled : Spelling → List ℕ × ℕ
spelled s = (string_bytes s.name, s.token.0)

-- behind names there are more, of tokens with lower numbers than this
pub record HasMore (count : ℕ) (old new : List (List ℕ × ℕ)) : Type 0 where
  pub more : List (List ℕ × ℕ)
  pub are : new ≡ old ++ more
  pub below : All (λ s. s.1 < count) more

-- the tokens of spellings are of the grammar
abbrev pub AreSpelled : Grammar → List Spelling → Type 0
AreSpelled g ss = All (λ s. s.token.0 < end_token g) ss

-- ---- what a line names

-- the words behind others, where they begin with these
abbrev pub behind : List (List ℕ) → List (List ℕ) → Option (List (List ℕ))
behind [] ws = Some ws
behind (v ∷ vs) [] = None
behind (v ∷ vs) (w ∷ ws) = if bytes_eq v w then behind vs ws else None

-- what words begin with: the name of a token, and the words behind it
pub record Front : Type 0 where
  pub token : ℕ
  pub rest : List (List ℕ)

-- that of this token, with these words behind it
abbrev pub front_of : ℕ → List (List ℕ) → Front
front_of t rest = record { token = t; rest = rest }

-- the token of a spelling with the words behind it, if these are fewer
abbrev pub taken : ℕ → List (List ℕ) → Option (List (List ℕ)) → Option Front
taken t ws None = None
taken t ws (Some rest) = if nat_lt (length rest) (length ws) then Some (front_of t rest) else None

-- the first of two, if there is one
abbrev pub first_of : Option Front → Option Front → Option Front
first_of None o = o
first_of (Some n) o = Some n

-- what words begin with: the first spelling whose words stand there
abbrev pub first_named : List Spelling → List (List ℕ) → Option Front
first_named [] ws = None
first_named (s ∷ ss) ws = first_of (taken s.token.0 ws (behind (words (string_bytes s.name)) ws)) (first_named ss ws)

-- by spellings words name these tokens one after the other, up to this rest of them
pub data NameUpTo (ss : List Spelling) (ws : List (List ℕ)) : List ℕ → List (List ℕ) → Type 0 where
  nothing : NameUpTo ss ws [] ws
  more :
      {ts : List ℕ} {here : List (List ℕ)} {f : Front}
      → NameUpTo ss ws ts here → first_named ss here ≡ Some f
      → NameUpTo ss ws (ts ++ f.token ∷ []) f.rest

-- words name these tokens
abbrev pub AreNames : List Spelling → List (List ℕ) → List ℕ → Type 0
AreNames ss ws ts = NameUpTo ss ws ts []

-- behind tokens that words name comes this one, with which no name begins
pub record IsUnknown (ss : List Spelling) (ws : List (List ℕ)) (w : List ℕ) : Type 0 where
  pub before : List ℕ
  pub rest : List (List ℕ)
  pub named_before : NameUpTo ss ws before (w ∷ rest)
  pub unknown : first_named ss (w ∷ rest) ≡ None
