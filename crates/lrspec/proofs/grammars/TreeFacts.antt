-- forests that are joined, split, and put under a production
use Rattle.std.proofs.Common.{◌≡◌, ℕ, List, [], ◌∷◌, ◌++◌, refl, sym, ap, ◌∙◌, append_assoc, append-nil, zero, suc, ◌-◌, ◌≤◌, length, length-append, arith}
use Rattle.lrspec.specs.grammars.Grammar.{Symbol, Rule, Token, Grammar, AreBodySymbols}
use Rattle.lrspec.specs.grammars.Trees.{Tree, Forest, Leaf, Node, Bare, And, leaves, forest_leaves, order, forest_order, joined, size, first_trees, trees_behind, IsTree, IsForest, token, bare, and}
use Rattle.lrspec.specs.tables.Recognition.{HasTrees}

-- their leaves, one list after the other
pub leaves_joined : (ts us : Forest) → forest_leaves (joined ts us) ≡ forest_leaves ts ++ forest_leaves us
leaves_joined Bare us = refl
leaves_joined (And t ts) us = rw (append_assoc (leaves t) (forest_leaves ts) (forest_leaves us)) (ap (λ l. leaves t ++ l) (leaves_joined ts us))

-- and their productions
pub order_joined : (ts us : Forest) → forest_order (joined ts us) ≡ forest_order ts ++ forest_order us
order_joined Bare us = refl
order_joined (And t ts) us = rw (append_assoc (order t) (forest_order ts) (forest_order us)) (ap (λ l. order t ++ l) (order_joined ts us))

-- they are a forest of both lists of symbols
pub forest_joined : {g : Grammar} {v w : List Symbol} {ts us : Forest} → IsForest g v ts → IsForest g w us → IsForest g (v ++ w) (joined ts us)
forest_joined bare f = f
forest_joined (and t e) f = and t (forest_joined e f)

-- a forest of two lists of symbols is one of the first and one of the second
pub forest_split :
    {g : Grammar} (v w x : List Symbol) {ts : Forest} → IsForest g x ts → x ≡ v ++ w
    → (us : Forest) × (zs : Forest) × IsForest g v us × IsForest g w zs × (ts ≡ joined us zs)
forest_split [] w x {ts} f e = (Bare, ts, bare, rw (← e) f, refl)
forest_split (a ∷ v) w x bare e = cc
forest_split (a ∷ v) w x (and {x = y} {xs = ys} {t = t} t' f) e =
    let tail : ys ≡ v ++ w = cc in
    let head : y ≡ a = cc in
    let rest = forest_split v w ys f tail in
    (And t rest.0, rest.1, and (rw (← head) t') rest.2, rest.3, ap (λ k. And t k) rest.4)

-- a tree behind a forest puts its leaves behind those of the forest
pub leaves_pushed : (ts : Forest) (t : Tree) → forest_leaves (joined ts (And t Bare)) ≡ forest_leaves ts ++ leaves t
leaves_pushed ts t = leaves_joined ts (And t Bare) ∙ ap (λ l. forest_leaves ts ++ l) (append-nil (leaves t))

-- and its productions behind those of the forest
pub order_pushed : (ts : Forest) (t : Tree) → forest_order (joined ts (And t Bare)) ≡ forest_order ts ++ order t
order_pushed ts t = order_joined ts (And t Bare) ∙ ap (λ l. forest_order ts ++ l) (append-nil (order t))

-- to put the last trees of a forest under a production keeps the leaves
pub node_leaves : (p : ℕ) (us zs : Forest) → forest_leaves (joined us (And (Node p zs) Bare)) ≡ forest_leaves (joined us zs)
node_leaves p us zs = leaves_pushed us (Node p zs) ∙ sym (leaves_joined us zs)

-- and adds the production to those in order
pub node_order : (p : ℕ) (us zs : Forest) → forest_order (joined us (And (Node p zs) Bare)) ≡ forest_order (joined us zs) ++ p ∷ []
node_order p us zs =
    order_pushed us (Node p zs)
    ∙ (sym (append_assoc (forest_order us) (forest_order zs) (p ∷ [])) ∙ ap (λ l. l ++ p ∷ []) (sym (order_joined us zs)))

-- it has one for each symbol
pub forest_size : {g : Grammar} {y : List Symbol} {ts : Forest} → IsForest g y ts → size ts ≡ length y
forest_size bare = refl
forest_size (and t f) = ap suc (forest_size f)

-- a forest has at least as many trees as its last part
pub size_joined : (ts us : Forest) → size us ≤ size (joined ts us)
size_joined Bare us = omega arith
size_joined (And t ts) us = let k : size us ≤ size (joined ts us) = size_joined ts us in omega arith

-- a forest is its first trees and those behind them
pub first_and_behind : (n : ℕ) (ts : Forest) → ts ≡ joined (first_trees n ts) (trees_behind n ts)
first_and_behind zero ts = refl
first_and_behind (suc n) Bare = refl
first_and_behind (suc n) (And t ts) = ap (λ us. And t us) (first_and_behind n ts)

-- how many are behind the first
pub size_behind : (n : ℕ) (ts : Forest) → size (trees_behind n ts) ≡ size ts - n
size_behind zero ts = omega arith
size_behind (suc n) Bare = omega arith
size_behind (suc n) (And t ts) = size_behind n ts ∙ omega arith

-- a forest of two lists of symbols, cut behind as many trees as the second has symbols, is one of each
pub forest_parts :
    {g : Grammar} (v w x : List Symbol) (us zs ts : Forest) → IsForest g x ts → x ≡ v ++ w → ts ≡ joined us zs → size zs ≡ length w
    → IsForest g v us × IsForest g w zs
forest_parts [] w x Bare zs ts f e k n = (bare, rw (← e, ← k) f)
forest_parts (a ∷ v) w x Bare zs ts f e k n = absurd (omega (arith, forest_size f, ap size k, ap length e, length-append v w))
forest_parts [] w x (And u us) zs ts f e k n = absurd (omega (arith, forest_size f, ap size k, ap length e, size_joined us zs))
forest_parts (a ∷ v) w x (And u us) zs ts bare e k n = cc
forest_parts (a ∷ v) w x (And u us) zs ts (and {x = y} {xs = ys} {t = t} {ts = rest} i f) e k n =
    let behind : ys ≡ v ++ w = cc in
    let trees : rest ≡ joined us zs = cc in
    let symbol : y ≡ a = cc in
    let tree : t ≡ u = cc in
    let parts = forest_parts v w ys us zs rest f behind trees n in
    (and (rw (← symbol, ← tree) i) parts.0, parts.1)

-- where every rule has a tree, the symbols of a body have a forest
pub forest_of_symbols : {g : Grammar} → HasTrees g → (y : List Symbol) → AreBodySymbols g y → (ts : Forest) × IsForest g y ts
forest_of_symbols has [] k = (Bare, bare)
forest_of_symbols has (Rule r ∷ y) k =
    let t = has r k.0.1 in
    let f = forest_of_symbols has y k.1 in
    (And t.0 f.0, and t.1 f.1)
forest_of_symbols has (Token t ∷ y) k = let f = forest_of_symbols has y k.1 in (And (Leaf t) f.0, and token f.1)

-- a forest of one symbol is one tree
pub forest_alone :
    {g : Grammar} {y : List Symbol} {ts : Forest} (x : Symbol) → IsForest g y ts → y ≡ x ∷ []
    → (t : Tree) × IsTree g x t × (ts ≡ And t Bare)
forest_alone x bare e = cc
forest_alone x (and {x = y} {t = t} i bare) e = let head : y ≡ x = cc in (t, rw head at i, refl)
forest_alone x (and i (and j f)) e = cc
