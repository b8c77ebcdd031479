-- items after short lists, trees and sentences, and a contested token
use Rattle.std.proofs.Common.{◌≡◌, [], ◌∷◌, refl, arith}
use Rattle.lrspec.specs.grammars.Grammar.{Rule, Token, IsGrammar}
use Rattle.lrspec.specs.grammars.First.{Nullable, AllNullable, Begins}
use Rattle.lrspec.specs.grammars.First as first
use Rattle.lrspec.specs.grammars.CanonicalItems as item
use Rattle.lrspec.specs.grammars.CanonicalItems.{Stands, Looks}
use Rattle.lrspec.specs.grammars.Candidates as candidate
use Rattle.lrspec.specs.grammars.Candidates.{Candidate, IsCandidate, IsContested}
use Rattle.lrspec.specs.grammars.Trees as trees
use Rattle.lrspec.specs.grammars.Trees.{Tree, Forest, Leaf, Node, Bare, And, leaves, order, IsTree, IsForest, IsSentence}
use Rattle.lrspec.specs.examples.ExampleGrammars.{assignments, lr_not_lalr, rule_without_tree, contested_on_x}
use Rattle.lrspec.proofs.grammars.CanonicalItemFacts.{stands_of_looks}
use Rattle.lrspec.proofs.examples.GrammarsByComputing.{grammar_from_test}

-- assignments: `S: L '=' R | R; L: '*' R | 'id'; R: L;`
pub assignments_grammar : IsGrammar assignments
assignments_grammar = grammar_from_test assignments 1 refl refl refl refl refl refl

-- at the start `S: . L '=' R` stands
pub assignments_start : Stands assignments [] 0 0
assignments_start = item.Stands.expand item.Stands.begin refl refl

-- `L: . 'id'` looks at '=', which stands behind L
pub assignments_looks_at_equals : Looks assignments [] 3 0 0
assignments_looks_at_equals = item.Looks.expand assignments_start refl refl first.Begins.here

assignments_right : Looks assignments [] 1 0 3
assignments_right = item.Looks.inherit item.Looks.begin refl refl first.AllNullable.none

-- `R: . L` looks at the end token
pub assignments_looks_at_end : Looks assignments [] 4 0 3
assignments_looks_at_end = item.Looks.inherit assignments_right refl refl first.AllNullable.none

-- after L `S: L . '=' R` stands
pub assignments_stands_after : Stands assignments (Rule 2 ∷ []) 0 1
assignments_stands_after = item.Stands.advance assignments_start refl

-- and `R: L .` looks at the end token
pub assignments_looks_after : Looks assignments (Rule 2 ∷ []) 4 1 3
assignments_looks_after = item.Looks.advance assignments_looks_at_end refl

-- an R that is `id`
abbrev right_tree : Tree
right_tree = Node 4 (And (Node 3 (And (Leaf 2) Bare)) Bare)

is_right_tree : IsTree assignments (Rule 3) right_tree
is_right_tree =
    trees.IsTree.production refl
    (trees.IsForest.and (trees.IsTree.production refl (trees.IsForest.and trees.IsTree.token trees.IsForest.bare)) trees.IsForest.bare)

-- the tree of `* id = id`
abbrev pub assignments_tree : Tree
assignments_tree = Node 0 (And (Node 2 (And (Leaf 1) (And right_tree Bare))) (And (Leaf 0) (And right_tree Bare)))

pub assignments_leaves : leaves assignments_tree ≡ 1 ∷ 2 ∷ 0 ∷ 2 ∷ []
assignments_leaves = refl

pub assignments_order : order assignments_tree ≡ 3 ∷ 4 ∷ 2 ∷ 3 ∷ 4 ∷ 0 ∷ []
assignments_order = refl

assignments_is_tree : IsTree assignments (Rule 1) assignments_tree
assignments_is_tree =
    trees.IsTree.production refl
    (trees.IsForest.and (trees.IsTree.production refl (trees.IsForest.and trees.IsTree.token (trees.IsForest.and is_right_tree trees.IsForest.bare)))
    (trees.IsForest.and trees.IsTree.token (trees.IsForest.and is_right_tree trees.IsForest.bare)))

-- `* id = id` is a sentence
pub assignments_sentence : IsSentence assignments (1 ∷ 2 ∷ 0 ∷ 2 ∷ [])
assignments_sentence = record { rule = 1; tree = assignments_tree; start = refl; is_tree = assignments_is_tree; leaves_are = refl }

-- LR(1) and not LALR(1): `S: 'a' A 'd' | 'b' B 'd' | 'a' B 'e' | 'b' A 'e'; A: 'c'; B: 'c';`
pub lr_not_lalr_grammar : IsGrammar lr_not_lalr
lr_not_lalr_grammar = grammar_from_test lr_not_lalr 1 refl refl refl refl refl refl

-- after `a` the items `S: 'a' . A 'd'` and `S: 'a' . B 'e'` stand
lr_not_lalr_a_first : Stands lr_not_lalr (Token 0 ∷ []) 0 1
lr_not_lalr_a_first = item.Stands.advance (item.Stands.expand item.Stands.begin refl refl) refl

lr_not_lalr_a_third : Stands lr_not_lalr (Token 0 ∷ []) 2 1
lr_not_lalr_a_third = item.Stands.advance (item.Stands.expand item.Stands.begin refl refl) refl

-- after `b` the items `S: 'b' . B 'd'` and `S: 'b' . A 'e'` do
lr_not_lalr_b_second : Stands lr_not_lalr (Token 2 ∷ []) 1 1
lr_not_lalr_b_second = item.Stands.advance (item.Stands.expand item.Stands.begin refl refl) refl

lr_not_lalr_b_fourth : Stands lr_not_lalr (Token 2 ∷ []) 3 1
lr_not_lalr_b_fourth = item.Stands.advance (item.Stands.expand item.Stands.begin refl refl) refl

-- after `a c` the complete A looks at `d` and the complete B at `e`
pub lr_not_lalr_after_a_c : Looks lr_not_lalr (Token 0 ∷ Token 4 ∷ []) 4 1 1 × Looks lr_not_lalr (Token 0 ∷ Token 4 ∷ []) 5 1 3
lr_not_lalr_after_a_c = (
  item.Looks.advance (item.Looks.expand lr_not_lalr_a_first refl refl first.Begins.here) refl,
  item.Looks.advance (item.Looks.expand lr_not_lalr_a_third refl refl first.Begins.here) refl,
)

-- after `b c` it is the other way round
pub lr_not_lalr_after_b_c : Looks lr_not_lalr (Token 2 ∷ Token 4 ∷ []) 4 1 3 × Looks lr_not_lalr (Token 2 ∷ Token 4 ∷ []) 5 1 1
lr_not_lalr_after_b_c = (
  item.Looks.advance (item.Looks.expand lr_not_lalr_b_fourth refl refl first.Begins.here) refl,
  item.Looks.advance (item.Looks.expand lr_not_lalr_b_second refl refl first.Begins.here) refl,
)

-- the tree of `a c d`
abbrev pub lr_not_lalr_tree : Tree
lr_not_lalr_tree = Node 0 (And (Leaf 0) (And (Node 4 (And (Leaf 4) Bare)) (And (Leaf 1) Bare)))

pub lr_not_lalr_leaves : leaves lr_not_lalr_tree ≡ 0 ∷ 4 ∷ 1 ∷ []
lr_not_lalr_leaves = refl

pub lr_not_lalr_order : order lr_not_lalr_tree ≡ 4 ∷ 0 ∷ []
lr_not_lalr_order = refl

lr_not_lalr_is_tree : IsTree lr_not_lalr (Rule 1) lr_not_lalr_tree
lr_not_lalr_is_tree =
    trees.IsTree.production refl
    (trees.IsForest.and trees.IsTree.token
    (trees.IsForest.and (trees.IsTree.production refl (trees.IsForest.and trees.IsTree.token trees.IsForest.bare))
    (trees.IsForest.and trees.IsTree.token trees.IsForest.bare)))

-- `a c d` is a sentence
pub lr_not_lalr_sentence : IsSentence lr_not_lalr (0 ∷ 4 ∷ 1 ∷ [])
lr_not_lalr_sentence = record { rule = 1; tree = lr_not_lalr_tree; start = refl; is_tree = lr_not_lalr_is_tree; leaves_are = refl }

-- a rule without a tree: `S: A B | 'c'; A: 'a' | 'a'; B: B 'b';`
pub rule_without_tree_grammar : IsGrammar rule_without_tree
rule_without_tree_grammar = grammar_from_test rule_without_tree 1 refl refl refl refl refl refl

-- `S: . A B` looks at the end token
without_tree_start : Looks rule_without_tree [] 0 0 3
without_tree_start = item.Looks.inherit item.Looks.begin refl refl first.AllNullable.none

-- after `a` the item `A: 'a' .` stands
pub without_tree_stands : Stands rule_without_tree (Token 1 ∷ []) 2 1
without_tree_stands = item.Stands.advance (item.Stands.expand (stands_of_looks without_tree_start) refl refl) refl

-- after A the item `B: . B 'b'` looks at the end token, and at `b`
pub without_tree_looks_at_end : Looks rule_without_tree (Rule 2 ∷ []) 4 0 3
without_tree_looks_at_end = item.Looks.inherit (item.Looks.advance without_tree_start refl) refl refl first.AllNullable.none

pub without_tree_looks_at_b : Looks rule_without_tree (Rule 2 ∷ []) 4 0 2
without_tree_looks_at_b = item.Looks.expand (stands_of_looks without_tree_looks_at_end) refl refl first.Begins.here

-- the tree of `c`
abbrev pub without_tree_tree : Tree
without_tree_tree = Node 1 (And (Leaf 0) Bare)

pub without_tree_leaves : leaves without_tree_tree ≡ 0 ∷ []
without_tree_leaves = refl

pub without_tree_order : order without_tree_tree ≡ 1 ∷ []
without_tree_order = refl

without_tree_is_tree : IsTree rule_without_tree (Rule 1) without_tree_tree
without_tree_is_tree = trees.IsTree.production refl (trees.IsForest.and trees.IsTree.token trees.IsForest.bare)

-- `c` is a sentence
pub without_tree_sentence : IsSentence rule_without_tree (0 ∷ [])
without_tree_sentence = record { rule = 1; tree = without_tree_tree; start = refl; is_tree = without_tree_is_tree; leaves_are = refl }

-- contested on x alone: `S: 'a' A 'd' | 'a' A 'x' | 'a' B 'e' | 'a' B 'x' | 'b' B 'd' | 'b' A 'e'; A: 'c'; B: 'c';`
pub contested_on_x_grammar : IsGrammar contested_on_x
contested_on_x_grammar = grammar_from_test contested_on_x 1 refl refl refl refl refl refl

-- after `a` the items `S: 'a' . A 'x'` and `S: 'a' . B 'x'` stand
contested_a_second : Stands contested_on_x (Token 0 ∷ []) 1 1
contested_a_second = item.Stands.advance (item.Stands.expand item.Stands.begin refl refl) refl

contested_a_fourth : Stands contested_on_x (Token 0 ∷ []) 3 1
contested_a_fourth = item.Stands.advance (item.Stands.expand item.Stands.begin refl refl) refl

-- so after `a c` both complete items look at `x`, which is contested
pub contested_after_a_c : IsContested contested_on_x (Token 0 ∷ Token 5 ∷ []) 2
contested_after_a_c = record {
  one = candidate.Candidate.Reduce 6;
  other = candidate.Candidate.Reduce 7;
  differ = λ e. cc;
  is_one = candidate.IsCandidate.reduce (λ e. omega (arith, e)) (item.Looks.advance (item.Looks.expand contested_a_second refl refl first.Begins.here) refl);
  is_other = candidate.IsCandidate.reduce (λ e. omega (arith, e)) (item.Looks.advance (item.Looks.expand contested_a_fourth refl refl first.Begins.here) refl);
}
