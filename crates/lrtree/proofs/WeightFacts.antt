-- how the weights of trees that are taken apart fall
use Rattle.std.proofs.Common.{◌≡◌, ◌≢◌, ℕ, ◌+◌, ◌<◌, refl, arith}
use Rattle.lrspec.specs.grammars.Trees.{Tree, Forest, Leaf, Node, Bare, And, joined}
use Rattle.lrtree.specs.Weights.{tree_weight, forest_weight, row_weight}

-- the weights of two forests add up
forest_weight_joined : (ts us : Forest) → forest_weight (joined ts us) ≡ forest_weight ts + forest_weight us
forest_weight_joined Bare us = omega arith
forest_weight_joined (And t ts) us = omega (arith, forest_weight_joined ts us)

-- a tree behind some others adds its weight
row_weight_pushed : (ts : Forest) (t : Tree) → ts ≢ Bare → row_weight (joined ts (And t Bare)) ≡ row_weight ts + tree_weight t
row_weight_pushed Bare t some = absurd (some refl)
row_weight_pushed (And u ts) t some = omega (arith, forest_weight_joined ts (And t Bare))

-- without its last tree a row weighs less
pub lighter_without : (ts : Forest) (t : Tree) → row_weight ts < row_weight (joined ts (And t Bare))
lighter_without Bare (Leaf t) = omega arith
lighter_without Bare (Node p us) = omega arith
lighter_without (And u ts) (Leaf t) = omega (arith, forest_weight_joined ts (And (Leaf t) Bare))
lighter_without (And u ts) (Node p us) = omega (arith, forest_weight_joined ts (And (Node p us) Bare))

-- the children of the last tree, with the other trees and the first child under a node in its place, weigh less than all
pub lighter_moved :
    (ts : Forest) (p : ℕ) (u : Tree) (us : Forest) → ts ≢ Bare
    → row_weight (And (Node p (joined ts (And u Bare))) us) < row_weight (joined ts (And (Node p (And u us)) Bare))
lighter_moved ts p u us some =
    omega (arith, row_weight_pushed ts u some, row_weight_pushed ts (Node p (And u us)) some)
