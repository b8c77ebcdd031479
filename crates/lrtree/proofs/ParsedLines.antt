-- what is printed of a parse
use Rattle.std.proofs.Common.{◌≡◌, ℕ, ◌<◌, List, [], ◌∷◌, ◌++◌, length, sym, ap, ◌∙◌, subst, append-nil}
use Rattle.std.specs.Prelude.{codes, All}
use Rattle.std.proofs.lemmas.List.Elements.{All-append, All-nil, All-cons}
use Rattle.lrspec.specs.grammars.Grammar.{Symbol, Rule, Grammar, IsGrammar}
use Rattle.lrspec.specs.grammars.Trees as tree
use Rattle.lrspec.specs.grammars.Trees.{Tree, Forest, Bare, And, leaves, order, forest_order, IsTree, IsForest, IsSentence}
use Rattle.lrspec.specs.tables.Table.{Table, IsTableFor}
use Rattle.lrspec.specs.tables.Machine.{Accepted, run}
use Rattle.lrspec.specs.tables.TreeMachine.{forest_of_run}
use Rattle.lrspec.specs.tables.Recognition.{AreNamed}
use Rattle.lrspec.specs.texts.TreeTexts.{tree_text, forest_text, trees_text, parse_text, IsPrintable}
use Rattle.lrspec.proofs.grammars.BodyFacts.{below_of_production}
use Rattle.lrspec.proofs.grammars.UniqueTrees.{tree_same}
use Rattle.lrspec.proofs.tables.MachineTheorems.{one_tree_of_run}

mutual
  -- the productions of a tree are there
  productions_there : {g : Grammar} {x : Symbol} {t : Tree} → IsTree g x t → All (λ p. p < length g.productions) (order t)
  productions_there {g} tree.token = All-nil (λ p. p < length g.productions)
  productions_there {g} (tree.production {p = p} {r = r} {ts = ts} of_rule f) =
      let P : ℕ → Type 0 = λ p. p < length g.productions in
      All-append P (forest_order ts) (p ∷ []) (forest_there f) (All-cons P p [] (below_of_production g p r of_rule) (All-nil P))

  forest_there : {g : Grammar} {xs : List Symbol} {ts : Forest} → IsForest g xs ts → All (λ p. p < length g.productions) (forest_order ts)
  forest_there {g} tree.bare = All-nil (λ p. p < length g.productions)
  forest_there {g} (tree.and {t = t} {ts = ts} k f) = All-append (λ p. p < length g.productions) (order t) (forest_order ts) (productions_there k) (forest_there f)

-- the tree of a text of named tokens can be printed
pub sentence_printable : {g : Grammar} {text : List ℕ} (s : IsSentence g text) (t : Tree) → s.tree ≡ t → AreNamed g text → IsPrintable g t
sentence_printable {g} s t e named =
    subst (IsPrintable g) e (record { tokens = subst (AreNamed g) (sym s.leaves_are) named; productions = productions_there s.is_tree })

-- where a text is accepted its one tree is printed
pub parse_printed :
    {g : Grammar} {b : Table} (n : ℕ) (text : List ℕ) → IsGrammar g → IsTableFor g b → AreNamed g text → (run g b n text).verdict ≡ Accepted
    → (s : IsSentence g text) → order s.tree ≡ (run g b n text).reductions → parse_text g b n text ≡ codes "tree " ++ tree_text g s.tree
parse_printed {g} {b} n text m k named accepted s productions =
    let (u, same, one) = one_tree_of_run m k n text named accepted in
    let roots : Rule u.rule ∷ [] ≡ Rule s.rule ∷ [] = sym u.start ∙ s.start in
    let trees : u.tree ≡ s.tree = (tree_same u.is_tree s.is_tree (cc) [] [] (same ∙ sym productions)).0 in
    ap (λ v. trees_text g v (forest_of_run g b n text)) accepted
    ∙ ap (λ ts. codes "tree " ++ forest_text g ts) (one ∙ ap (λ t. And t Bare) trees)
    ∙ ap (λ l. codes "tree " ++ l) (append-nil (tree_text g s.tree))
