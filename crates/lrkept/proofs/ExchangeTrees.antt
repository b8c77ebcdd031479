-- open items, where a tree behind the dot is read
use Rattle.std.proofs.Common.{◌≡◌, ℕ, suc, ◌<◌, List, [], ◌∷◌, ◌++◌, length, refl, ap, ◌∙◌, append_assoc, length-append, arith}
use Rattle.lrspec.specs.grammars.Grammar.{Symbol, Grammar, body_of, rest}
use Rattle.lrspec.specs.grammars.Trees as tree
use Rattle.lrspec.specs.grammars.Trees.{Tree, Forest, Leaf, Node, Bare, And, leaves, forest_leaves, IsTree, IsForest}
use Rattle.lrspec.proofs.grammars.BodyFacts.{below_of_drop, rest_next, split_next}
use Rattle.lrconflicts.specs.Moves.{Move, Reduce, moves_of, forest_moves}
use Rattle.lrkept.specs.Kept.{GoesOn}
use Rattle.lrkept.proofs.OpenStacks.{Opens, finish_tree}

-- a forest of no symbols has no leaves
pub no_leaves : {g : Grammar} {xs : List Symbol} {ts : Forest} → IsForest g xs ts → xs ≡ [] → forest_leaves ts ≡ []
no_leaves tree.IsForest.bare e = refl
no_leaves (tree.IsForest.and i k) e = absurd cc

-- one of a first symbol has a tree for that
pub record FirstTree (g : Grammar) (x : Symbol) (xs : List Symbol) (ts : Forest) : Type 0 where
  pub first : Tree
  pub others : Forest
  pub both : ts ≡ And first others
  pub is_tree : IsTree g x first
  pub are_trees : IsForest g xs others

pub first_tree : {g : Grammar} {x : Symbol} {xs l : List Symbol} {ts : Forest} → IsForest g l ts → l ≡ x ∷ xs → FirstTree g x xs ts
first_tree tree.IsForest.bare e = absurd cc
first_tree {x} {xs} (tree.IsForest.and {x = y} {xs = ys} {t = t} {ts = ts} i k) e =
    let head : y ≡ x = cc in
    let tail : ys ≡ xs = cc in
    record { first = t; others = ts; both = refl; is_tree = rw head at i; are_trees = rw tail at k }

-- a tree takes some move
pub some_moves : (t : Tree) → 0 < length (moves_of t)
some_moves (Leaf t) = omega arith
some_moves (Node p ts) = omega (arith, length-append (forest_moves ts) (Reduce p ∷ []))

-- what goes on goes on where it is written otherwise
pub goes_same : {g : Grammar} {v u : List Symbol} {w x : List ℕ} → v ≡ u → w ≡ x → GoesOn g u x → GoesOn g v w
goes_same e f k = rw (e, f) k

module _ {g : Grammar} {u : List Symbol} {p d : ℕ} {ms : List Move} {w : List ℕ} (o : Opens g u p d ms w) where
  -- behind the first tree the item is open with its dot moved on
  pub opens_next : (x : Symbol) (xs : List Symbol) (e : rest g p d ≡ x ∷ xs) → (k : FirstTree g x xs o.trees)
      → Opens g (u ++ x ∷ []) p (suc d) (forest_moves k.others ++ Reduce p ∷ o.after) (forest_leaves k.others ++ o.behind)
  opens_next x xs e k = record {
    front = o.front;
    rule = o.rule;
    trees = k.others;
    after = o.after;
    behind = o.behind;
    stack = split_next (body_of g p) d o.front u (u ++ x ∷ []) x xs refl o.stack e;
    within = below_of_drop (body_of g p) d x xs e;
    of_rule = o.of_rule;
    forest = rw (rest_next (body_of g p) d x xs e) k.are_trees;
    moves = refl;
    texts = refl;
    finishes = o.finishes;
  }

  -- with a move less at least
  pub next_fewer : (x : Symbol) (xs : List Symbol) (k : FirstTree g x xs o.trees) → length (forest_moves k.others ++ Reduce p ∷ o.after) < length ms
  next_fewer x xs k =
      let all = length-append (forest_moves o.trees) (Reduce p ∷ o.after) in
      let both = length-append (moves_of k.first) (forest_moves k.others) in
      let behind = length-append (forest_moves k.others) (Reduce p ∷ o.after) in
      omega (arith, ap length o.moves, ap (λ t. length (forest_moves t)) k.both, some_moves k.first, all, both, behind)

  -- what is read from behind the symbol is read from before it
  pub next_read :
      (x : Symbol) (xs : List Symbol) (k : FirstTree g x xs o.trees) {v : List Symbol}
      → GoesOn g (v ++ x ∷ []) (forest_leaves k.others ++ o.behind) → GoesOn g v w
  next_read x xs k (ns, f) =
      let text : w ≡ leaves k.first ++ (forest_leaves k.others ++ o.behind) =
      o.texts ∙ (ap (λ t. forest_leaves t ++ o.behind) k.both ∙ append_assoc (leaves k.first) (forest_leaves k.others) o.behind) in
      goes_same refl text (moves_of k.first ++ ns, finish_tree k.is_tree f)
