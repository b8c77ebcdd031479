-- how many nodes the trees of a text have, where no rule derives itself alone
use Rattle.std.proofs.Common.{◌≡◌, ℕ, zero, suc, ◌+◌, ◌*◌, ◌<◌, ◌≤◌, List, [], ◌∷◌, ◌++◌, length, length-append, refl, sym, ap, ◌∙◌, append_assoc, arith}
use Rattle.std.proofs.Math.Nat.{mul-le-mul_right}
use Rattle.lrspec.specs.grammars.Grammar.{Symbol, Rule, Grammar, body_of, IsProductionOf}
use Rattle.lrspec.specs.grammars.First as first
use Rattle.lrspec.specs.grammars.First.{AllNullable}
use Rattle.lrspec.specs.grammars.Trees.{Tree, Forest, leaves, forest_leaves, order, forest_order, nodes, IsTree, IsForest, token, production, bare, and, IsSentence}
use Rattle.lrkept.specs.Acyclicity.{HasAlone, DerivesAlone, IsRanking, IsAcyclic, nodes_within}
use Rattle.lrkept.specs.Acyclicity as alone
use Rattle.lrkept.proofs.NullableLists.{null_append}

-- ranks fall along steps, so no rule derives itself alone
rank_falls : {g : Grammar} {bound : ℕ} {rank : ℕ → ℕ} → IsRanking g bound rank → {r s : ℕ} → DerivesAlone g r s → rank s < rank r
rank_falls k (alone.DerivesAlone.one {r = r} {s = s} h) = k.falls r s h
rank_falls {rank = rank} k (alone.DerivesAlone.more {r = r} {s = s} {u = u} h d) =
    let behind : rank u < rank s = rank_falls k d in
    let first : rank s < rank r = k.falls r s h in
    omega arith

pub derives_no_self : {g : Grammar} → IsAcyclic g → (r : ℕ) → ¬ (DerivesAlone g r r)
derives_no_self (bound, rank, k) r d = let falls : rank r < rank r = rank_falls k d in omega arith

-- a list without a symbol more
no_leaves : (us : List ℕ) → length us ≡ 0 → us ≡ []
no_leaves [] e = refl
no_leaves (u ∷ us) e = absurd (omega (arith, e))

mutual
  -- what has a tree without leaves is nullable
  null_tree : {g : Grammar} {x : Symbol} {t : Tree} → IsTree g x t → length (leaves t) ≡ 0 → AllNullable g (x ∷ [])
  null_tree token e = absurd (omega (arith, e))
  null_tree (production {p = p} i f) e = first.AllNullable.more (first.Nullable.by_body p i (null_forest f e)) first.AllNullable.none

  null_forest : {g : Grammar} {y : List Symbol} {ts : Forest} → IsForest g y ts → length (forest_leaves ts) ≡ 0 → AllNullable g y
  null_forest bare e = first.AllNullable.none
  null_forest (and {t = t} {ts = ts} i f) e =
      let both = length-append (leaves t) (forest_leaves ts) in
      null_append (null_tree i (omega (arith, e, both))) (null_forest f (omega (arith, e, both)))

module _ (g : Grammar) (width bound : ℕ) (rank : ℕ → ℕ) (wide : (p : ℕ) → length (body_of g p) ≤ width) (ranking : IsRanking g bound rank) where
  -- how deep a tree of a rule is at most
  abbrev depth : ℕ → ℕ → ℕ
  depth count r = count * bound + rank r

  -- a child that has all leaves of its node is of a lower rank, and any other has fewer leaves
  child_depth :
      (p r s : ℕ) (x y : List Symbol) (own others : ℕ) → IsProductionOf g p r → body_of g p ≡ x ++ Rule s ∷ y
      → (others ≡ 0 → AllNullable g x × AllNullable g y) → depth own s < depth (own + others) r
  child_depth p r s x y own zero i e null =
      let both = null refl in
      let falls : rank s < rank r =
      ranking.falls r s (record { production = p; before = x; behind = y; of_rule = i; body = e; null_before = both.0; null_behind = both.1 }) in
      omega arith
  child_depth p r s x y own (suc others) i e null =
      let below : rank s < bound = ranking.below s in
      omega (arith, mul-le-mul_right {m = own + 1} {n = own + suc others} bound (omega arith))

  mutual
    -- a tree that is not deep has few nodes
    tree_nodes :
        {x : Symbol} {t : Tree} → IsTree g x t → (levels : ℕ) → ((r : ℕ) → x ≡ Rule r → depth (length (leaves t)) r < levels)
        → nodes t ≤ nodes_within width levels
    tree_nodes token levels l = omega arith
    tree_nodes (production {r = r} i f) zero l = let none = l r refl in absurd (omega arith)
    tree_nodes (production {p = p} {r = r} {ts = ts} i f) (suc levels) l =
        let within : depth (length (forest_leaves ts)) r < suc levels = l r refl in
        let children = forest_nodes f p r [] 0 levels i refl (λ z. first.AllNullable.none) (omega (arith, within)) in
        omega (arith, children, length-append (forest_order ts) (p ∷ []), mul-le-mul_right (nodes_within width levels) (wide p))

    -- and so have its children, each behind others with so many leaves
    forest_nodes :
        {y : List Symbol} {ts : Forest} → IsForest g y ts → (p r : ℕ) (x : List Symbol) (others levels : ℕ) → IsProductionOf g p r → body_of g p ≡ x ++ y
        → (others ≡ 0 → AllNullable g x) → depth (others + length (forest_leaves ts)) r ≤ levels
        → length (forest_order ts) ≤ length y * nodes_within width levels
    forest_nodes bare p r x others levels i e null l = omega arith
    forest_nodes (and {x = a} {xs = y} {t = t} {ts = ts} j f) p r x others levels i e null l =
        let own : ℕ = length (leaves t) in
        let more : ℕ = length (forest_leaves ts) in
        let count : length (leaves t ++ forest_leaves ts) ≡ own + more = length-append (leaves t) (forest_leaves ts) in
        let total : others + length (leaves t ++ forest_leaves ts) ≡ own + (others + more) = omega arith in
        let within : depth (own + (others + more)) r ≤ levels = rw total at l in
        let deep : (s : ℕ) → a ≡ Rule s → depth own s < levels = λ s is.
        let child : depth own s < depth (own + (others + more)) r =
        child_depth p r s x y own (others + more) i (e ∙ ap (λ b. x ++ b ∷ y) is) (λ z. (null (omega arith), null_forest f (omega arith))) in
        omega arith in
        let first = tree_nodes j levels deep in
        let same : others + own + more ≡ own + (others + more) = omega arith in
        let behind =
        forest_nodes f p r (x ++ a ∷ []) (others + own) levels i (e ∙ sym (append_assoc x (a ∷ []) y))
        (λ z. null_append (null (omega arith)) (null_tree j (omega arith))) (rw same within) in
        omega (arith, first, behind, length-append (order t) (forest_order ts))

  -- so has a tree of the text
  pub sentence_nodes : {text : List ℕ} (s : IsSentence g text) → nodes s.tree ≤ nodes_within width ((length text + 1) * bound)
  sentence_nodes {text} s =
      let same : length (leaves s.tree) ≡ length text = ap length s.leaves_are in
      tree_nodes s.is_tree ((length text + 1) * bound)
      (λ r e. let below : rank r < bound = ranking.below r in rw same (omega arith))
