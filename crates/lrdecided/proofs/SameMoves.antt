-- lists of moves: what they tell of a tree, and where two of them part
use Rattle.std.proofs.Common.{◌≡◌, ◌≢◌, ℕ, List, [], ◌∷◌, ◌++◌, ◌⊎◌, inl, inr, refl, sym, ap, ◌∙◌}
use Rattle.std.proofs.lemmas.Bool.{cases_eq}
use Rattle.lrspec.specs.grammars.Grammar.{Symbol, Grammar}
use Rattle.lrspec.specs.grammars.Trees.{Tree, Forest, Leaf, Node, Bare, And, order, forest_order, IsTree}
use Rattle.lrspec.proofs.grammars.UniqueTrees.{tree_same}
use Rattle.lrconflicts.specs.Moves.{Move, Shift, Reduce, moves_of, forest_moves}

-- the productions of the reductions
abbrev reductions_of : List Move → List ℕ
reductions_of [] = []
reductions_of (Shift ∷ ms) = reductions_of ms
reductions_of (Reduce p ∷ ms) = p ∷ reductions_of ms

reductions_append : (ms ns : List Move) → reductions_of (ms ++ ns) ≡ reductions_of ms ++ reductions_of ns
reductions_append [] ns = refl
reductions_append (Shift ∷ ms) ns = reductions_append ms ns
reductions_append (Reduce p ∷ ms) ns = ap (λ l. p ∷ l) (reductions_append ms ns)

mutual
  -- those of a tree are its productions in order
  order_of_moves : (t : Tree) → reductions_of (moves_of t) ≡ order t
  order_of_moves (Leaf t) = refl
  order_of_moves (Node p ts) = reductions_append (forest_moves ts) (Reduce p ∷ []) ∙ ap (λ l. l ++ p ∷ []) (order_of_forest ts)

  order_of_forest : (ts : Forest) → reductions_of (forest_moves ts) ≡ forest_order ts
  order_of_forest Bare = refl
  order_of_forest (And t ts) =
      reductions_append (moves_of t) (forest_moves ts)
      ∙ (ap (λ l. l ++ reductions_of (forest_moves ts)) (order_of_moves t) ∙ ap (λ l. order t ++ l) (order_of_forest ts))

-- so trees of one symbol with the same moves are the same
pub tree_told : {g : Grammar} {x y : Symbol} {t u : Tree} → IsTree g x t → IsTree g y u → x ≡ y → moves_of t ≡ moves_of u → t ≡ u
tree_told {t = t} {u = u} i j e same = (tree_same i j e [] [] (sym (order_of_moves t) ∙ (ap reductions_of same ∙ order_of_moves u))).0

-- two moves are the same or not
same_or_not : (m n : Move) → (m ≡ n) ⊎ (m ≢ n)
same_or_not Shift Shift = inl refl
same_or_not Shift (Reduce q) = inr (λ e. cc)
same_or_not (Reduce p) Shift = inr (λ e. cc)
same_or_not (Reduce p) (Reduce q) = elim (cases_eq p q) [
  | inl e ↦ inl (ap Reduce e)
  | inr k ↦ inr (λ e. let same : p ≡ q = cc in k same)
]

-- how two lists of moves go: they are the same, or the one goes on where the other ends, or they part
pub data Comparison : List Move → List Move → Type 0 where
  same : {ms : List Move} → Comparison ms ms
  one_longer : (ms : List Move) (m : Move) (after : List Move) → Comparison (ms ++ m ∷ after) ms
  other_longer : (ms : List Move) (m : Move) (after : List Move) → Comparison ms (ms ++ m ∷ after)
  parted :
      (before : List Move) (m : Move) (one : List Move) (n : Move) (other : List Move) → m ≢ n
      → Comparison (before ++ m ∷ one) (before ++ n ∷ other)

-- with a move more in front
also_in_front : {ms ns : List Move} (m : Move) → Comparison ms ns → Comparison (m ∷ ms) (m ∷ ns)
also_in_front m Comparison.same = Comparison.same
also_in_front m (Comparison.one_longer ms n after) = Comparison.one_longer (m ∷ ms) n after
also_in_front m (Comparison.other_longer ms n after) = Comparison.other_longer (m ∷ ms) n after
also_in_front m (Comparison.parted before n one k other differ) = Comparison.parted (m ∷ before) n one k other differ

pub compared : (ms ns : List Move) → Comparison ms ns
compared [] [] = Comparison.same
compared [] (n ∷ ns) = Comparison.other_longer [] n ns
compared (m ∷ ms) [] = Comparison.one_longer [] m ms
compared (m ∷ ms) (n ∷ ns) = elim (same_or_not m n) [
  | inl e ↦ rw (sym e) (also_in_front m (compared ms ns))
  | inr k ↦ Comparison.parted [] m ms n ns k
]
