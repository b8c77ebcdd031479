-- the trees that productions in order tell
use Rattle.std.specs.Prelude.{◌≡◌, ℕ, List, [], ◌∷◌}
use Rattle.lrgrammar.specs.declared.idx.PIdx.{PIdx}
use Rattle.lrgrammar.specs.StoredGrammar.{numbers_of}
use Rattle.lrspec.specs.grammars.Grammar.{Rule, Grammar, body_of}
use Rattle.lrspec.specs.grammars.Trees.{Tree, IsTree, order}

-- a tree for the start rule, of these productions in order
pub record IsTreeOf (g : Grammar) (rs : List ℕ) (t : Tree) : Type 0 where
  pub rule : ℕ
  pub start : body_of g g.start_production ≡ Rule rule ∷ []
  pub is_tree : IsTree g (Rule rule) t
  pub productions : order t ≡ rs

-- there is such a tree
abbrev pub HasTreeOf : {T : Type 0} → (T → ℕ) → Grammar → List (PIdx T) → Type 0
HasTreeOf number g ps = (t : Tree) × IsTreeOf g (numbers_of number ps) t

-- of such trees the fact holds
abbrev pub IsOfTree : {T : Type 0} → (T → ℕ) → Grammar → List (PIdx T) → (Tree → Type 0) → Type 0
IsOfTree number g ps P = (t : Tree) → IsTreeOf g (numbers_of number ps) t → P t
