-- the tokens of sentences
use Rattle.std.proofs.Common.{ℕ, ◌<◌, List, [], subst}
use Rattle.std.proofs.lemmas.List.Elements.{All-nil, All-cons, All-append}
use Rattle.lrspec.specs.grammars.Grammar.{Symbol, Grammar, IsGrammar, IsBodySymbol, AreBodySymbols, end_token}
use Rattle.lrspec.specs.grammars.Trees.{Tree, Forest, leaves, forest_leaves, IsTree, IsForest, token, production, bare, and, IsSentence}
use Rattle.lrspec.specs.tables.Recognition.{AreNamed}

module _ {g : Grammar} (shape : IsGrammar g) where
  mutual
    -- the leaves of a tree for a symbol of a body are named tokens
    tree_named : {x : Symbol} {t : Tree} → IsTree g x t → IsBodySymbol g x → AreNamed g (leaves t)
    tree_named (token {t = t}) k = All-cons (λ u. u < end_token g) t [] k (All-nil (λ u. u < end_token g))
    tree_named (production {p = p} of_rule f) k = forest_named f (shape.symbols p)

    -- and so are those of trees in a row
    forest_named : {xs : List Symbol} {ts : Forest} → IsForest g xs ts → AreBodySymbols g xs → AreNamed g (forest_leaves ts)
    forest_named bare k = All-nil (λ u. u < end_token g)
    forest_named (and {t = t} {ts = ts} a f) k =
        All-append (λ u. u < end_token g) (leaves t) (forest_leaves ts) (tree_named a k.0) (forest_named f k.1)

  -- the tokens of a sentence are named ones
  pub sentence_named : {text : List ℕ} → IsSentence g text → AreNamed g text
  sentence_named s =
      let root = subst (AreBodySymbols g) s.start (shape.symbols g.start_production) in subst (AreNamed g) s.leaves_are (tree_named s.is_tree root.0)
