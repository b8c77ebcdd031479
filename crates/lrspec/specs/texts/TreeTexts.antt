-- the texts of trees, when they tell the trees, and the answers that tell a tree
use Rattle.std.specs.Prelude.{ℕ, ◌^◌, ◌<◌, ◌≤◌, List, [], ◌++◌, codes, length, All, Contains}
use Rattle.lrspec.specs.grammars.Grammar.{Symbol, Rule, Token, Grammar}
use Rattle.lrspec.specs.grammars.Trees.{Tree, Leaf, Node, Forest, Bare, And, leaves, order}
use Rattle.lrspec.specs.tables.Table.{Table}
use Rattle.lrspec.specs.tables.Machine as machine
use Rattle.lrspec.specs.tables.Machine.{Verdict, run}
use Rattle.lrspec.specs.tables.TreeMachine.{forest_of_run}
use Rattle.lrspec.specs.tables.Recognition.{AreNamed}
use Rattle.lrspec.specs.texts.Lines.{words}
use Rattle.lrspec.specs.texts.Parts.{HasDouble}
use Rattle.lrspec.specs.texts.PrintedTexts.{token_text}
use Rattle.lrspec.specs.texts.MachineLines.{production_label, tokens_of, first_unknown, unless_unknown}

abbrev mutual
  -- a token between quotes; a production as answers name it, and its children between parentheses
  pub tree_text : Grammar → Tree → List ℕ
  tree_text g (Leaf t) = token_text g t
  tree_text g (Node p ts) = production_label g p ++ codes "(" ++ forest_text g ts ++ codes ")"

  -- trees in a row, a space between each two
  pub forest_text : Grammar → Forest → List ℕ
  forest_text g Bare = []
  forest_text g (And t ts) = tree_text g t ++ others_text g ts

  -- the others, a space before each
  pub others_text : Grammar → Forest → List ℕ
  others_text g Bare = []
  others_text g (And t ts) = codes " " ++ tree_text g t ++ others_text g ts

-- the tokens of the tree are named ones, and its productions are there
pub record IsPrintable (g : Grammar) (t : Tree) : Type 0 where
  pub tokens : AreNamed g (leaves t)
  pub productions : All (λ p. p < length g.productions) (order t)

-- ---- when a text tells its tree

-- the place of a production has at most 64 digits, which are as many as `decimal` writes; so the
-- text of a tree for a known symbol tells the tree, whatever the names are
abbrev pub HasShortPlaces : Grammar → Type 0
HasShortPlaces g = length g.productions ≤ 10 ^ 64

-- the symbol has a name: it is a rule or a named token
abbrev pub IsNamed : Grammar → Symbol → Type 0
IsNamed g (Rule r) = r < length g.rule_names
IsNamed g (Token t) = t < length g.token_names

-- the names under which the text of a tree tells its symbol too, and so the tree
pub record TellSymbols (g : Grammar) : Type 0 where
  -- no two rules share a name
  pub rules : HasDouble g.rule_names → ⊥
  -- nor do two tokens
  pub tokens : HasDouble g.token_names → ⊥
  -- no name of a rule holds a `(`
  pub brackets : All (λ name. Contains name 40 → ⊥) g.rule_names

-- ---- answers

-- how a run ended that has put these trees together; nothing where the machine stuck
abbrev pub trees_text : Grammar → Verdict → Forest → List ℕ
trees_text g machine.Verdict.Accepted ts = codes "tree " ++ forest_text g ts
trees_text g machine.Verdict.Rejected ts = codes "reject"
trees_text g machine.Verdict.Unfinished ts = codes "unfinished"
trees_text g machine.Verdict.Stuck ts = codes ""

-- the text of what at most `n` steps put together
abbrev pub parse_text : Grammar → Table → ℕ → List ℕ → List ℕ
parse_text g b n text = trees_text g (run g b n text).verdict (forest_of_run g b n text)

-- the answer to a line of these words, by the tokens of the words
abbrev pub words_tree : Grammar → Table → ℕ → List (List ℕ) → List ℕ
words_tree g b n ws = unless_unknown (first_unknown g ws) (parse_text g b n (tokens_of g ws))

-- the answer to a line
abbrev pub tree_answer : Grammar → Table → ℕ → List ℕ → List ℕ
tree_answer g b n line = words_tree g b n (words line)
