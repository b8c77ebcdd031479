-- which item is open where a tree is half read, by the next move
use Rattle.std.proofs.Common.{◌≡◌, ℕ, zero, suc, ◌≤◌, List, [], ◌∷◌, ◌++◌, ◌⊎◌, inl, inr, length, take, refl, sym, ap, ◌∙◌, append_assoc, append-nil, arith}
use Rattle.std.proofs.lemmas.List.{take_all}
use Rattle.lrspec.specs.grammars.Grammar.{Symbol, Token, Grammar, body_of, rest}
use Rattle.lrspec.specs.grammars.Trees.{Tree, Forest, Leaf, Bare, And, leaves, forest_leaves, IsTree, IsForest, token, production, bare, and}
use Rattle.lrspec.proofs.grammars.BodyFacts.{rest_next, drop_some, take_next}
use Rattle.lrconflicts.specs.Moves.{Move, Shift, Reduce, moves_of, forest_moves, IsTreeBy}
use Rattle.lrambiguity.specs.Replays.{Reads}
use Rattle.lrambiguity.proofs.ReadOnce.{read_once}
use Rattle.lrdecided.proofs.OpenItems.{Open}

-- an item that is open before its body is open behind each part of it
open_along :
    {g : Grammar} {w : List Symbol} {p n : ℕ} {x : List ℕ} (d : ℕ) → Open g w p 0 x n → d ≤ length (body_of g p)
    → (k : ℕ) × Open g (w ++ take d (body_of g p)) p d x k
open_along {w = w} {n = n} zero o l = (n, rw (append-nil w) o)
open_along {g} {w} {p} (suc d) o l =
    let (k, there) = open_along d o (omega arith) in
    let (s, y, e) = drop_some (body_of g p) d l in
    (suc k, rw (take_next (body_of g p) d s y e, ← append_assoc w (take d (body_of g p)) (s ∷ [])) (Open.advance there e))

-- before the next move an item is open: the one by which it reduces, or one before the token that it shifts
pub data Opening (g : Grammar) (w : List Symbol) (x : List ℕ) : Move → Type 0 where
  reduce : {n : ℕ} (p : ℕ) → Open g w p (length (body_of g p)) x n → Opening g w x (Reduce p)
  shift :
      {n : ℕ} (p d t : ℕ) (y : List Symbol) (ts : Forest) (v : List ℕ) → Open g w p d v n → rest g p d ≡ Token t ∷ y
      → IsForest g (rest g p d) ts → x ≡ forest_leaves ts ++ v
      → Opening g w x Shift

-- a place in two lists of moves is in the first, or in the second
place_in :
    (xs ys before : List Move) (m : Move) (after : List Move) → xs ++ ys ≡ before ++ m ∷ after
    → ((a : List Move) × (xs ≡ before ++ m ∷ a)) ⊎ ((b : List Move) × (before ≡ xs ++ b) × (ys ≡ b ++ m ∷ after))
place_in [] ys before m after e = inr (before, refl, e)
place_in (x ∷ xs) ys [] m after e = inl (xs, cc)
place_in (x ∷ xs) ys (b ∷ before) m after e =
    let tail : xs ++ ys ≡ before ++ m ∷ after = cc in
    let head : x ≡ b = cc in
    elim (place_in xs ys before m after tail) [
      | inl p ↦ inl (p.0, (ap (λ l. x ∷ l) p.1 ∙ ap (λ y. y ∷ before ++ m ∷ p.0) head))
      | inr p ↦ inr (p.0, (ap (λ l. b ∷ l) p.1 ∙ ap (λ y. y ∷ xs ++ p.0) (sym head)), p.2)
    ]

-- that of a move alone is the move
place_of_one : (x : Move) (b : List Move) (m : Move) (after : List Move) → x ∷ [] ≡ b ++ m ∷ after → (b ≡ []) × (x ≡ m)
place_of_one x [] m after e = (refl, cc)
place_of_one x (c ∷ []) m after e = absurd (cc)
place_of_one x (c ∷ d ∷ b) m after e = absurd (cc)

-- and none is in no moves
no_place : (b : List Move) (m : Move) (after : List Move) → [] ≡ b ++ m ∷ after → ⊥
no_place [] m after e = cc
no_place (c ∷ b) m after e = cc

-- within a text, behind which `v` is left, and after `w`: the moves before read the beginning of it, and an item is open
-- before the next move
record Found (g : Grammar) (w : List Symbol) (v : List ℕ) (before : List Move) (m : Move) (text : List ℕ) : Type 0 where
  used : List ℕ
  left : List ℕ
  roots : List Symbol
  trees : Forest
  split : used ++ left ≡ text
  reads : Reads g before used roots trees
  opening : Opening g (w ++ roots) (left ++ v) m

-- at a token
found_at_token :
    {g : Grammar} {w : List Symbol} {p d t n : ℕ} {v : List ℕ} {y : List Symbol} {ts : Forest} (before : List Move) (m : Move) → Open g w p d v n → rest g p d ≡ Token t ∷ y
    → IsForest g y ts → before ≡ [] → Shift ≡ m → Found g w (forest_leaves ts ++ v) before m (t ∷ [])
found_at_token {w = w} {p = p} {d = d} {t = t} {v = v} {y = y} {ts = ts} before m o e f none is = record {
  used = [];
  left = t ∷ [];
  roots = [];
  trees = Bare;
  split = refl;
  reads = rw none (record { roots = bare; used = refl; made = refl });
  opening = rw (append-nil w, ← is) (Opening.shift p d t y (And (Leaf t) ts) v o e (rw e (and token f)) refl);
}

-- behind the children of a node
found_at_node :
    {g : Grammar} {w : List Symbol} {q n : ℕ} {v : List ℕ} {ts : Forest} (before : List Move) (m : Move) → Open g w q 0 v n → IsForest g (body_of g q) ts
    → before ≡ forest_moves ts → Reduce q ≡ m → Found g w v before m (forest_leaves ts)
found_at_node {g} {w} {q} {v = v} {ts = ts} before m o f made is =
    let (k, there) = open_along (length (body_of g q)) o (omega arith) in
    let all : take (length (body_of g q)) (body_of g q) ≡ body_of g q = take_all (length (body_of g q)) (body_of g q) (omega arith) in
    record {
      used = forest_leaves ts;
      left = [];
      roots = body_of g q;
      trees = ts;
      split = append-nil (forest_leaves ts);
      reads = record { roots = f; used = refl; made = sym made };
      opening = rw (← is) (Opening.reduce q (rw all at there));
    }

-- in the first tree of some
found_in_first :
    {g : Grammar} {w : List Symbol} {v : List ℕ} {before : List Move} {m : Move} (text others : List ℕ) → Found g w (others ++ v) before m text
    → Found g w v before m (text ++ others)
found_in_first {v = v} text others n = record {
  used = n.used;
  left = n.left ++ others;
  roots = n.roots;
  trees = n.trees;
  split = sym (append_assoc n.used n.left others) ∙ ap (λ l. l ++ others) n.split;
  reads = n.reads;
  opening = rw (append_assoc n.left others v) n.opening;
}

-- and behind it
found_behind :
    {g : Grammar} {w : List Symbol} {v : List ℕ} {x : Symbol} {t : Tree} (b before : List Move) (m : Move) (text : List ℕ) → IsTree g x t → before ≡ moves_of t ++ b
    → Found g (w ++ x ∷ []) v b m text → Found g w v before m (leaves t ++ text)
found_behind {w = w} {x = x} {t = t} b before m text i e n = record {
  used = leaves t ++ n.used;
  left = n.left;
  roots = x ∷ n.roots;
  trees = And t n.trees;
  split = append_assoc (leaves t) n.used n.left ∙ ap (λ l. leaves t ++ l) n.split;
  reads = record { roots = and i n.reads.roots; used = ap (λ l. leaves t ++ l) n.reads.used; made = ap (λ l. moves_of t ++ l) n.reads.made ∙ sym e };
  opening = rw (append_assoc w (x ∷ []) n.roots) at n.opening;
}

mutual
  -- the item that is open before the next move in a tree of the symbol before which an item is open
  found_in_tree :
      {g : Grammar} {x : Symbol} {t : Tree} → IsTree g x t → {w : List Symbol} {v : List ℕ} {p d n : ℕ} {y : List Symbol} {ts : Forest} → Open g w p d v n
      → rest g p d ≡ x ∷ y → IsForest g y ts → (before : List Move) (m : Move) (after : List Move) → moves_of t ≡ before ++ m ∷ after
      → Found g w (forest_leaves ts ++ v) before m (leaves t)
  found_in_tree (token {t = t}) o e f before m after k =
      let one = place_of_one Shift before m after k in found_at_token before m o e f one.0 one.1
  found_in_tree (production {p = q} {ts = us} i j) o e f before m after k =
      elim (place_in (forest_moves us) (Reduce q ∷ []) before m after k) [
        | inl c ↦ found_in_forest j (Open.inside o e i f) refl before m c.0 c.1
        | inr c ↦
            let one = place_of_one (Reduce q) c.0 m after c.2 in
            found_at_node before m (Open.inside o e i f) j (c.1 ∙ (ap (λ l. forest_moves us ++ l) one.0 ∙ append-nil (forest_moves us))) one.1
      ]

  -- and in a forest of what is behind its dot
  found_in_forest :
      {g : Grammar} {y : List Symbol} {ts : Forest} → IsForest g y ts → {w : List Symbol} {v : List ℕ} {q d n : ℕ} → Open g w q d v n → rest g q d ≡ y
      → (before : List Move) (m : Move) (after : List Move) → forest_moves ts ≡ before ++ m ∷ after → Found g w v before m (forest_leaves ts)
  found_in_forest bare o e before m after k = absurd (no_place before m after k)
  found_in_forest {g} (and {x = x} {xs = y} {t = t} {ts = ts} i f) {q = q} {d = d} o e before m after k =
      elim (place_in (moves_of t) (forest_moves ts) before m after k) [
        | inl c ↦ found_in_first (leaves t) (forest_leaves ts) (found_in_tree i o e f before m c.0 c.1)
        | inr c ↦
            found_behind c.0 before m (forest_leaves ts) i c.1
            (found_in_forest f (Open.advance o e) (rest_next (body_of g q) d x y e) c.0 m after c.2)
      ]

-- the moves before the next one to a tree read a part of the text
pub record Halfway (g : Grammar) (before : List Move) (text : List ℕ) : Type 0 where
  pub used : List ℕ
  pub left : List ℕ
  pub roots : List Symbol
  pub trees : Forest
  pub split : used ++ left ≡ text
  pub reads : Reads g before used roots trees

pub halfway :
    {g : Grammar} {before : List Move} {text : List ℕ} (m : Move) (after : List Move) (t : Tree) → IsTreeBy g (before ++ m ∷ after) text t
    → Halfway g before text
halfway {before = before} m after t a =
    let n = found_in_tree a.of_start.is_tree Open.start a.of_start.start bare before m after a.moves_are in record {
      used = n.used;
      left = n.left;
      roots = n.roots;
      trees = n.trees;
      split = n.split ∙ a.leaves_are;
      reads = n.reads;
    }

-- where the moves before have read a part of a text, and others go on to a tree of all, an item is open before the next move,
-- after the roots of what was read
pub opening_there :
    {g : Grammar} {before : List Move} {used left : List ℕ} {w : List Symbol} {ts : Forest} (m : Move) (after : List Move) (t : Tree) → Reads g before used w ts
    → IsTreeBy g (before ++ m ∷ after) (used ++ left) t → Opening g w left m
opening_there {g} {before} {left = left} {w = w} m after t reads a =
    let n = found_in_tree a.of_start.is_tree Open.start a.of_start.start bare before m after a.moves_are in
    let one = read_once reads n.reads (sym a.leaves_are ∙ sym n.split) in
    rw (one.0, one.1 ∙ sym (append-nil n.left)) n.opening
