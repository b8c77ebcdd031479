-- moves read a text in one way
use Rattle.std.proofs.Common.{◌≡◌, ℕ, ◌+◌, ◌-◌, List, [], ◌∷◌, ◌++◌, length, refl, sym, ap, ◌∙◌, append_assoc, append-nil, arith}
use Rattle.std.proofs.lemmas.List.{append_cancel_left}
use Rattle.lrspec.specs.grammars.Grammar.{Symbol, Rule, Token, Grammar, body_of}
use Rattle.lrspec.specs.grammars.Trees.{Tree, Forest, Leaf, Node, Bare, And, leaves, forest_leaves, joined, size, first_trees, trees_behind, IsTree, IsForest, token, production, bare, and}
use Rattle.lrspec.specs.tables.TreeMachine.{under}
use Rattle.lrspec.proofs.grammars.BodyFacts.{rule_unique}
use Rattle.lrspec.proofs.grammars.TreeFacts.{forest_size}
use Rattle.lrconflicts.specs.Moves.{Move, Shift, Reduce, moves_of, forest_moves}
use Rattle.lrambiguity.specs.Replays.{Reads}

-- the trees that moves make of a text behind others: a shift of a text that is used up ends it
abbrev trees_by : Grammar → List Move → Forest → List ℕ → Forest
trees_by g [] ts v = ts
trees_by g (Shift ∷ ms) ts [] = ts
trees_by g (Shift ∷ ms) ts (t ∷ v) = trees_by g ms (joined ts (And (Leaf t) Bare)) v
trees_by g (Reduce p ∷ ms) ts v = trees_by g ms (under g p ts) v

-- joining trees goes with them
joined_bare : (ts : Forest) → joined ts Bare ≡ ts
joined_bare Bare = refl
joined_bare (And t ts) = ap (λ us. And t us) (joined_bare ts)

joined_assoc : (ts us vs : Forest) → joined (joined ts us) vs ≡ joined ts (joined us vs)
joined_assoc Bare us vs = refl
joined_assoc (And t ts) us vs = ap (λ zs. And t zs) (joined_assoc ts us vs)

size_both : (ts us : Forest) → size (joined ts us) ≡ size ts + size us
size_both Bare us = omega arith
size_both (And t ts) us = let k : size (joined ts us) ≡ size ts + size us = size_both ts us in omega arith

-- the first trees, and those behind them
first_of_joined : (ts us : Forest) → first_trees (size ts) (joined ts us) ≡ ts
first_of_joined Bare us = refl
first_of_joined (And t ts) us = ap (λ zs. And t zs) (first_of_joined ts us)

behind_joined : (ts us : Forest) → trees_behind (size ts) (joined ts us) ≡ us
behind_joined Bare us = refl
behind_joined (And t ts) us = behind_joined ts us

-- the last trees, one for each symbol of the body, go under the production
under_joined : (g : Grammar) (p : ℕ) (us zs : Forest) → size zs ≡ length (body_of g p) → under g p (joined us zs) ≡ joined us (And (Node p zs) Bare)
under_joined g p us zs n =
    let kept : size (joined us zs) - length (body_of g p) ≡ size us = omega (arith, size_both us zs, n) in
    rw (kept, first_of_joined us zs, behind_joined us zs) refl

mutual
  -- the moves of a tree put it behind the others
  tree_again :
      {g : Grammar} {x : Symbol} {t : Tree} → IsTree g x t → (us : Forest) (v : List ℕ) (ms : List Move)
      → trees_by g (moves_of t ++ ms) us (leaves t ++ v) ≡ trees_by g ms (joined us (And t Bare)) v
  tree_again token us v ms = refl
  tree_again {g} (production {p = p} {ts = ts} i f) us v ms =
      ap (λ l. trees_by g l us (forest_leaves ts ++ v)) (append_assoc (forest_moves ts) (Reduce p ∷ []) ms)
      ∙ forest_again f us v (Reduce p ∷ ms)
      ∙ ap (λ zs. trees_by g ms zs v) (under_joined g p us ts (forest_size f))

  -- and those of trees in a row put them there
  forest_again :
      {g : Grammar} {w : List Symbol} {ts : Forest} → IsForest g w ts → (us : Forest) (v : List ℕ) (ms : List Move)
      → trees_by g (forest_moves ts ++ ms) us (forest_leaves ts ++ v) ≡ trees_by g ms (joined us ts) v
  forest_again {g} bare us v ms = ap (λ zs. trees_by g ms zs v) (sym (joined_bare us))
  forest_again {g} (and {t = t} {ts = ts} i f) us v ms =
      ap (λ l. trees_by g l us ((leaves t ++ forest_leaves ts) ++ v)) (append_assoc (moves_of t) (forest_moves ts) ms)
      ∙ ap (λ l. trees_by g (moves_of t ++ (forest_moves ts ++ ms)) us l) (append_assoc (leaves t) (forest_leaves ts) v)
      ∙ tree_again i us (forest_leaves ts ++ v) (forest_moves ts ++ ms)
      ∙ forest_again f (joined us (And t Bare)) v ms
      ∙ ap (λ zs. trees_by g ms zs v) (joined_assoc us (And t Bare) ts)

-- so the moves that read a text tell the trees
trees_told : {g : Grammar} {ms : List Move} {text : List ℕ} {w : List Symbol} {ts : Forest} (v : List ℕ) → Reads g ms text w ts → trees_by g ms Bare (text ++ v) ≡ ts
trees_told {g} {ts = ts} v a =
    let again : trees_by g (forest_moves ts ++ []) Bare (forest_leaves ts ++ v) ≡ ts = forest_again a.roots Bare v [] in
    rw (append-nil (forest_moves ts), a.made, a.used) at again

-- a tree has one root
root_same : {g : Grammar} {x y : Symbol} {t u : Tree} → IsTree g x t → IsTree g y u → t ≡ u → x ≡ y
root_same (token {t = t}) (token {t = u}) e = let same : t ≡ u = cc in ap Token same
root_same token (production i f) e = absurd (cc)
root_same (production i f) token e = absurd (cc)
root_same {g} (production {p = p} {r = r} i f) (production {p = q} {r = s} j k) e =
    let same : p ≡ q = cc in ap Rule (rule_unique g q r s (rw same at i) j)

-- and trees in a row have one list of roots
roots_same : {g : Grammar} {w v : List Symbol} {ts us : Forest} → IsForest g w ts → IsForest g v us → ts ≡ us → w ≡ v
roots_same bare bare e = refl
roots_same bare (and i f) e = absurd (cc)
roots_same (and i f) bare e = absurd (cc)
roots_same (and {x = x} {xs = xs} {t = t} {ts = ts} i f) (and {x = y} {xs = ys} {t = u} {ts = us} j k) e =
    let trees : ts ≡ us = cc in
    let tree : t ≡ u = cc in
    let behind : xs ≡ ys = roots_same f k trees in
    let first : x ≡ y = root_same i j tree in
    cc

-- moves that read beginnings of one text read the same of it, as trees of the same roots
pub read_once :
    {g : Grammar} {ms : List Move} {text used v left : List ℕ} {w x : List Symbol} {ts us : Forest} → Reads g ms text w ts → Reads g ms used x us
    → text ++ v ≡ used ++ left → (w ≡ x) × (v ≡ left)
read_once {g} {ms} {text} {used} {v} {left} {ts = ts} {us} a b e =
    let trees : ts ≡ us = sym (trees_told v a) ∙ ap (trees_by g ms Bare) e ∙ trees_told left b in
    let texts : text ≡ used = sym a.used ∙ ap forest_leaves trees ∙ b.used in
    (roots_same a.roots b.roots trees, append_cancel_left used v left (ap (λ l. l ++ v) (sym texts) ∙ e))
