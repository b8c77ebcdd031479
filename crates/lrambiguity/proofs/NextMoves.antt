-- behind the first moves of a tree of a sentence its next move is canonical
use Rattle.std.proofs.Common.{◌≡◌, ◌≢◌, ℕ, suc, List, [], ◌∷◌, ◌++◌, ◌⊎◌, inl, inr, length, take, refl, sym, ap, ◌∙◌, append_assoc, append-nil, arith}
use Rattle.std.proofs.lemmas.List.{take_all}
use Rattle.lrspec.specs.grammars.Grammar.{Symbol, Rule, Token, Grammar, IsGrammar, body_of, rest, IsProductionOf}
use Rattle.lrspec.specs.grammars.Trees.{Tree, Forest, Bare, And, leaves, forest_leaves, IsTree, IsForest, token, production, bare, and}
use Rattle.lrspec.specs.grammars.First.{none}
use Rattle.lrspec.specs.grammars.CanonicalItems as item
use Rattle.lrspec.specs.grammars.CanonicalItems.{Stands, Looks}
use Rattle.lrspec.specs.grammars.Candidates as candidate
use Rattle.lrspec.specs.grammars.Candidates.{IsCandidate}
use Rattle.lrspec.specs.tables.Machine.{next_token}
use Rattle.lrspec.proofs.grammars.BodyFacts.{rest_next, start_not_before}
use Rattle.lrspec.proofs.grammars.CanonicalItemFacts.{stands_of_looks, looks_join}
use Rattle.lrspec.proofs.tables.NextTokens.{child_looks}
use Rattle.lrconflicts.specs.Moves.{Move, Shift, Reduce, candidate_of, moves_of, forest_moves, IsTreeOfStart}
use Rattle.lrambiguity.specs.Replays.{Reads}
use Rattle.lrambiguity.proofs.ReadOnce.{read_once}

-- a place in a list of moves is in the first part of it, or in the second
split_at :
    (xs ys before : List Move) (m : Move) (after : List Move) → xs ++ ys ≡ before ++ m ∷ after
    → ((a : List Move) × (xs ≡ before ++ m ∷ a)) ⊎ ((b : List Move) × (before ≡ xs ++ b) × (ys ≡ b ++ m ∷ after))
split_at [] ys before m after e = inr (before, refl, e)
split_at (x ∷ xs) ys [] m after e = inl (xs, cc)
split_at (x ∷ xs) ys (b ∷ before) m after e =
    let tail : xs ++ ys ≡ before ++ m ∷ after = cc in
    let head : x ≡ b = cc in
    elim (split_at xs ys before m after tail) [
      | inl p ↦ inl (p.0, (ap (λ l. x ∷ l) p.1 ∙ ap (λ y. y ∷ before ++ m ∷ p.0) head))
      | inr p ↦ inr (p.0, (ap (λ l. b ∷ l) p.1 ∙ ap (λ y. y ∷ xs ++ p.0) (sym head)), p.2)
    ]

-- of one move it is the move
only_move : (x : Move) (b : List Move) (m : Move) (after : List Move) → x ∷ [] ≡ b ++ m ∷ after → (b ≡ []) × (x ≡ m)
only_move x [] m after e = (refl, cc)
only_move x (c ∷ []) m after e = absurd (cc)
only_move x (c ∷ d ∷ b) m after e = absurd (cc)

-- no move of none
no_move : (b : List Move) (m : Move) (after : List Move) → [] ≡ b ++ m ∷ after → ⊥
no_move [] m after e = cc
no_move (c ∷ b) m after e = cc

module _ (g : Grammar) (shape : IsGrammar g) where
  -- within a text, behind which `v` is left, and after `w`: the moves before read the beginning of it, and the next move is a
  -- candidate on what comes behind that
  pub record Next (w : List Symbol) (v : List ℕ) (before : List Move) (m : Move) (text : List ℕ) : Type 0 where
    pub used : List ℕ
    pub left : List ℕ
    pub roots : List Symbol
    pub trees : Forest
    pub split : used ++ left ≡ text
    pub reads : Reads g before used roots trees
    pub is_candidate : IsCandidate g (w ++ roots) (next_token g (left ++ v)) (candidate_of m)

  -- a token is shifted
  next_in_token :
      (w : List Symbol) (v : List ℕ) (p d t : ℕ) (y : List Symbol) (before : List Move) (m : Move) → Stands g w p d → rest g p d ≡ Token t ∷ y
      → before ≡ [] → Shift ≡ m → Next w v before m (t ∷ [])
  next_in_token w v p d t y before m s e nothing is = record {
    used = [];
    left = t ∷ [];
    roots = [];
    trees = Bare;
    split = refl;
    reads = rw nothing (record { roots = bare; used = refl; made = refl });
    is_candidate = rw (append-nil w, ← is) (candidate.IsCandidate.shift s (y, e));
  }

  -- a node is reduced behind its children
  next_in_node :
      (w : List Symbol) (v : List ℕ) (p d q r : ℕ) (y : List Symbol) (ts : Forest) (before : List Move) (m : Move) → Stands g w p d → rest g p d ≡ Rule r ∷ y
      → IsProductionOf g q r → IsForest g (body_of g q) ts → Looks g w q 0 (next_token g v) → before ≡ forest_moves ts → Reduce q ≡ m
      → Next w v before m (forest_leaves ts)
  next_in_node w v p d q r y ts before m s e i f look made is =
      let differ : q ≢ g.start_production = λ k. start_not_before shape p d r (y, e) (rw k at i) in
      let all : take (length (body_of g q)) (body_of g q) ≡ body_of g q = take_all (length (body_of g q)) (body_of g q) (omega arith) in
      let complete = rw all at (looks_join (length (body_of g q)) look (omega arith)) in
      record {
        used = forest_leaves ts;
        left = [];
        roots = body_of g q;
        trees = ts;
        split = append-nil (forest_leaves ts);
        reads = record { roots = f; used = refl; made = sym made };
        is_candidate = rw (← is) (candidate.IsCandidate.reduce differ complete);
      }

  -- what comes next in the first tree of some
  next_in_first :
      (w : List Symbol) (v : List ℕ) (before : List Move) (m : Move) (text others : List ℕ) → Next w (others ++ v) before m text → Next w v before m (text ++ others)
  next_in_first w v before m text others n = record {
    used = n.used;
    left = n.left ++ others;
    roots = n.roots;
    trees = n.trees;
    split = sym (append_assoc n.used n.left others) ∙ ap (λ l. l ++ others) n.split;
    reads = n.reads;
    is_candidate = rw (append_assoc n.left others v) n.is_candidate;
  }

  -- and behind it
  next_behind :
      (w : List Symbol) (v : List ℕ) (x : Symbol) (t : Tree) (b before : List Move) (m : Move) (text : List ℕ) → IsTree g x t → before ≡ moves_of t ++ b
      → Next (w ++ x ∷ []) v b m text → Next w v before m (leaves t ++ text)
  next_behind w v x t b before m text i e n = record {
    used = leaves t ++ n.used;
    left = n.left;
    roots = x ∷ n.roots;
    trees = And t n.trees;
    split = append_assoc (leaves t) n.used n.left ∙ ap (λ l. leaves t ++ l) n.split;
    reads = record { roots = and i n.reads.roots; used = ap (λ l. leaves t ++ l) n.reads.used; made = ap (λ l. moves_of t ++ l) n.reads.made ∙ sym e };
    is_candidate = rw (append_assoc w (x ∷ []) n.roots) at n.is_candidate;
  }

  mutual
    -- what comes next in a tree of the symbol before which an item stands, where its productions look at what follows
    pub next_in_tree :
        {x : Symbol} {t : Tree} → IsTree g x t → (w : List Symbol) (v : List ℕ) (p d : ℕ) (y : List Symbol) → Stands g w p d → rest g p d ≡ x ∷ y
        → ((q r : ℕ) → x ≡ Rule r → IsProductionOf g q r → Looks g w q 0 (next_token g v))
        → (before : List Move) (m : Move) (after : List Move) → moves_of t ≡ before ++ m ∷ after → Next w v before m (leaves t)
    next_in_tree (token {t = t}) w v p d y s e look before m after k =
        let one = only_move Shift before m after k in next_in_token w v p d t y before m s e one.0 one.1
    next_in_tree (production {p = q} {r = r} {ts = ts} i f) w v p d y s e look before m after k =
        elim (split_at (forest_moves ts) (Reduce q ∷ []) before m after k) [
          | inl c ↦ next_in_forest f w v q 0 (look q r refl i) refl before m c.0 c.1
          | inr c ↦
              let one = only_move (Reduce q) c.0 m after c.2 in
              next_in_node w v p d q r y ts before m s e i f (look q r refl i) (c.1 ∙ (ap (λ l. forest_moves ts ++ l) one.0 ∙ append-nil (forest_moves ts))) one.1
        ]

    -- and in a forest of what stands behind the dot, where the item looks at what follows
    pub next_in_forest :
        {y : List Symbol} {ts : Forest} → IsForest g y ts → (w : List Symbol) (v : List ℕ) (q d : ℕ) → Looks g w q d (next_token g v) → rest g q d ≡ y
        → (before : List Move) (m : Move) (after : List Move) → forest_moves ts ≡ before ++ m ∷ after → Next w v before m (forest_leaves ts)
    next_in_forest bare w v q d a e before m after k = absurd (no_move before m after k)
    next_in_forest (and {x = x} {xs = y} {t = t} {ts = ts} i f) w v q d a e before m after k =
        elim (split_at (moves_of t) (forest_moves ts) before m after k) [
          | inl c ↦
              next_in_first w v before m (leaves t) (forest_leaves ts)
              (next_in_tree i w (forest_leaves ts ++ v) q d y (stands_of_looks a) e (λ n r is j. child_looks v a (rw is at e) j f) before m c.0 c.1)
          | inr c ↦
              next_behind w v x t c.0 before m (forest_leaves ts) i c.1
              (next_in_forest f (w ++ x ∷ []) v q (suc d) (item.Looks.advance a e) (rest_next (body_of g q) d x y e) c.0 m after c.2)
        ]

-- the next move of a tree of a sentence is a candidate behind the roots of the trees that the moves before have put together
pub next_is_candidate :
    {g : Grammar} → IsGrammar g → {before : List Move} {used : List ℕ} {w : List Symbol} {ts : Forest} (left : List ℕ) (t : Tree) (m : Move) (after : List Move)
    → IsTreeOfStart g t
    → leaves t ≡ used ++ left → moves_of t ≡ before ++ m ∷ after → Reads g before used w ts → IsCandidate g w (next_token g left) (candidate_of m)
next_is_candidate {g} shape {before} left t m after a l k reads =
    let look : (q r : ℕ) → Rule a.rule ≡ Rule r → IsProductionOf g q r → Looks g [] q 0 (next_token g []) =
    λ q r e i. item.Looks.inherit item.Looks.begin (a.start ∙ ap (λ x. x ∷ []) e) i none in
    let n = next_in_tree g shape a.is_tree [] [] g.start_production 0 [] item.Stands.begin a.start look before m after k in
    let one = read_once reads n.reads (sym l ∙ sym n.split) in
    rw (one.0, one.1 ∙ sym (append-nil n.left)) n.is_candidate
