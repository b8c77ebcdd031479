-- drawn trees in brackets, as `E(E(E '+' E) . '+' E)`; with a mark where nodes are left out, as `E(… P(ID))`
use Rattle.std.specs.Prelude.{ℕ, ◌-◌, ◌==◌, Bool, true, false, List, [], ◌∷◌, ◌++◌, map, codes, string_bytes, slice_get, slice_index_or as get_or, ◌+◌, if◌then◌else◌}
use Rattle.std.specs.Option.{option_map_or}
use Rattle.lrgrammar.specs.declared.grammar.PartSymbol.{PartSymbol}
use Rattle.lrgrammar.specs.declared.grammar.PartSymbol.TheVariants.{Rule, Token}
use Rattle.lryacc.specs.declared.numbering.FileGrammar.{FileGrammar}
use Rattle.lrshown.specs.DrawnTrees.{Drawn, Row, Leaf, Over, Bare, And, size}

-- the names of tokens, where the end token is the one behind all of the file, of rules and of symbols
abbrev pub token_text : FileGrammar → ℕ → List ℕ
token_text file t = option_map_or (λ token. string_bytes token.name) (slice_get file.parts.tokens.items t) (codes "$end")

abbrev pub rule_text : FileGrammar → ℕ → List ℕ
rule_text file r = option_map_or string_bytes (slice_get file.parts.rules.items r) []

abbrev pub symbol_text : FileGrammar → PartSymbol → List ℕ
symbol_text file (Rule r) = rule_text file r
symbol_text file (Token t) = token_text file t

-- the name of the rule of a production
abbrev pub production_text : FileGrammar → ℕ → List ℕ
production_text file p = option_map_or (λ prod. rule_text file prod.rule) (slice_get file.parts.prods.items p) []

-- what stands where nodes are left out behind the one with that number: the mark; else nothing
abbrev pub cut_text : List ℕ → List Bool → ℕ → List ℕ
cut_text mark cuts n = if get_or cuts n false then mark else []

-- what comes before all that stands below a production, whose node has that number
abbrev pub front_text : FileGrammar → List ℕ → List Bool → ℕ → ℕ → List ℕ
front_text file mark cuts n p = (production_text file p ++ codes "(") ++ cut_text mark cuts n

-- a word of a tree, and whether a leaf is in it
pub record Word : Type 0 where
  pub bytes : List ℕ
  pub has_leaf : Bool

-- words, of which the first one begins with this
abbrev pub with_front : List ℕ → List Word → List Word
with_front front [] = []
with_front front (w ∷ ws) = record { bytes = front ++ w.bytes; has_leaf = w.has_leaf } ∷ ws

-- words, of which the last one ends with a closing bracket, which is a word if there is none
abbrev pub with_closing : List Word → List Word
with_closing [] = record { bytes = codes ")"; has_leaf = false } ∷ []
with_closing (w ∷ []) = record { bytes = w.bytes ++ codes ")"; has_leaf = w.has_leaf } ∷ []
with_closing (w ∷ v ∷ ws) = w ∷ with_closing (v ∷ ws)

abbrev mutual
  -- the words of a tree, whose nodes have numbers from this one on: the name of a leaf, or that of a rule and, in brackets, what
  -- stands below it
  pub tree_words : FileGrammar → List ℕ → List Bool → ℕ → Drawn → List Word
  tree_words file mark cuts n (Leaf s) = record { bytes = symbol_text file s; has_leaf = true } ∷ []
  tree_words file mark cuts n (Over p ts) =
      with_front (front_text file mark cuts (n + size ts) p) (with_closing (row_words file mark cuts n ts))

  -- and those of trees in a row
  pub row_words : FileGrammar → List ℕ → List Bool → ℕ → Row → List Word
  row_words file mark cuts n Bare = []
  row_words file mark cuts n (And ts t) = row_words file mark cuts n ts ++ tree_words file mark cuts (n + size ts) t

-- words, with a dot before the one with that leaf, or behind all
abbrev pub with_dot : ℕ → List Word → List (List ℕ)
with_dot n [] = codes "." ∷ []
with_dot n (w ∷ ws) =
    if w.has_leaf then
    (if n == 0 then codes "." ∷ map (λ v. v.bytes) (w ∷ ws) else w.bytes ∷ with_dot (n - 1) ws)
    else w.bytes ∷ with_dot n ws
