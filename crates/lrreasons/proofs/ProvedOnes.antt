-- what follows of an ambiguity that is proved
use Rattle.std.proofs.Common.{ℕ}
use Rattle.std.specs.Prelude.{Option, None, Some, IfSome, IsSome}
use Rattle.lrspec.specs.grammars.Grammar.{Grammar}
use Rattle.lrspec.specs.merging.Graph.{Graph}
use Rattle.lrspec.specs.tables.Recognition.{IsUnambiguous}
use Rattle.lrambiguity.proofs.TwoTrees.{tree_of_text, ambiguous, trees_differ}
use Rattle.lrconflicts.specs.declared.conflicts.Conflict.{Conflict}
use Rattle.lrreasons.specs.declared.ambiguities.ProvedAmbiguity.{ProvedAmbiguity}
use Rattle.lrreasons.specs.Ambiguities.{IsProofOf}
use Rattle.lrgrammar.specs.Symbols.{number_of}

-- what is so of what there is
pub some_follows : {X : Type 0} {P Q : X → Type 0} (o : Option X) → ((x : X) → P x → Q x) → IfSome o P → IfSome o Q
some_follows None f p = p
some_follows (Some x) f p = f x p

-- what is so where there is something
pub follows_of_some : {X : Type 0} {P : X → Type 0} {R : Type 0} (o : Option X) → ((x : X) → P x → R) → IfSome o P → IsSome o → R
follows_of_some None f p is = absurd (cc)
follows_of_some (Some x) f p is = f x p

module _ (g : Grammar) (h : Graph) (c : Conflict ℕ) where
  -- the grammar is ambiguous
  pub is_ambiguous : (a : ProvedAmbiguity) → IsProofOf g h c a → ¬ (IsUnambiguous g)
  is_ambiguous a p =
      let x = a.ambiguity in
      ambiguous (tree_of_text p.trees.first) (tree_of_text p.trees.second)
      (trees_differ number_of (λ m n same. same) g x.text.items x.before.items x.one.items x.other.items x.one_tree x.other_tree p.trees)
