-- nodes that cover others, and tokens that both ways take
use Rattle.std.proofs.Common.{◌≡◌, ℕ, suc, ◌+◌, ◌<◌, List, ◌∷◌, ◌++◌, Option, None, refl, sym, ap, ◌∙◌, append_assoc, arith}
use Rattle.std.specs.Prelude.{drop}
use Rattle.lrspec.specs.grammars.Grammar.{Symbol, Token, Grammar}
use Rattle.lrspec.specs.grammars.Trees.{Forest, Leaf, And, forest_leaves, IsForest, token, bare, and}
use Rattle.lrspec.specs.merging.Graph.{Graph}
use Rattle.lrdecided.specs.Agreements.{Spends}
use Rattle.lrdecided.specs.Nodes as nodes
use Rattle.lrdecided.specs.Nodes.{Side, SideCovers, Covers, with_symbols}
use Rattle.lrdecided.proofs.OpenItems.{weight}
use Rattle.lrdecided.proofs.Ways.{SideHolds, Holds, agree_next}

-- a way that stands as a side says stands as one says that covers it
side_covered : {g : Grammar} {w : List Symbol} {b a : Side} {text : List ℕ} {n : ℕ} → SideCovers b a → SideHolds g w a text n → SideHolds g w b text n
side_covered {g} {w} {b} {a} c k = record {
  behind = k.behind;
  depth = k.depth;
  item = rw (c.production, c.dot) k.item;
  others = c.beyond ++ k.others;
  trees = k.trees;
  forest = rw (sym (append_assoc b.symbols c.beyond k.others), ← c.begins) k.forest;
  whole = λ e. let both = c.all e in rw (both.0, k.whole both.1) refl;
  splits = k.splits;
  weighs = k.weighs;
}

pub covered : {g : Grammar} {h : Graph} {b a : nodes.Node} {n : ℕ} → Covers b a → Holds g h a n → Holds g h b n
covered {g} c k = record {
  roots = k.roots;
  state = k.state;
  leads = k.leads;
  within = c.states k.state k.within;
  one_text = k.one_text;
  other_text = k.other_text;
  one_weight = k.one_weight;
  other_weight = k.other_weight;
  one = side_covered c.one k.one;
  other = side_covered c.other k.other;
  agree = rw c.left k.agree;
  next = λ t e. k.next t (c.next t e);
  weighs = k.weighs;
}

-- a forest whose first symbol is a token has that as its first leaf
pub record FirstLeaf (g : Grammar) (y : List Symbol) (ts : Forest) (t : ℕ) : Type 0 where
  pub trees : Forest
  pub forest : IsForest g y trees
  pub leaves : forest_leaves ts ≡ t ∷ forest_leaves trees
  pub weighs : weight ts ≡ suc (weight trees)

pub first_leaf : {g : Grammar} {x : List Symbol} {ts : Forest} → IsForest g x ts → (t : ℕ) (y : List Symbol) → x ≡ Token t ∷ y → FirstLeaf g y ts t
first_leaf bare t y e = absurd cc
first_leaf {g} (and {xs = xs} {ts = ts} (token {t = s}) f) t y e =
    let tail : xs ≡ y = cc in
    let head : s ≡ t = cc in
    record { trees = ts; forest = rw tail at f; leaves = ap (λ u. u ∷ forest_leaves ts) head; weighs = omega arith }
first_leaf (and (Rattle.lrspec.specs.grammars.Trees.production i j) f) t y e = absurd cc

-- a way that takes its first token
record Takes (g : Grammar) (w : List Symbol) (a : Side) (text : List ℕ) (n : ℕ) : Type 0 where
  less : ℕ
  holds : SideHolds g w a (drop 1 text) less
  weighs : n ≡ suc less

side_takes : {g : Grammar} {w : List Symbol} {a : Side} {text : List ℕ} {n : ℕ} (t : ℕ) (y : List Symbol) → a.symbols ≡ Token t ∷ y → SideHolds g w a text n → Takes g w (with_symbols a y) text n
side_takes {g} {w} {a} t y e k =
    let one = first_leaf k.forest t (y ++ k.others) (ap (λ l. l ++ k.others) e) in record {
      less = k.depth + weight one.trees;
      holds = record {
        behind = k.behind;
        depth = k.depth;
        item = k.item;
        others = k.others;
        trees = one.trees;
        forest = one.forest;
        whole = k.whole;
        splits = ap (drop 1) (k.splits ∙ ap (λ l. l ++ k.behind) one.leaves);
        weighs = refl;
      };
      weighs = k.weighs ∙ omega (arith, one.weighs);
    }

-- both take the token that they have next
pub taken :
    {g : Grammar} {h : Graph} {a : nodes.Node} {l : Option ℕ} {n : ℕ} (t : ℕ) (y z : List Symbol) → Spends a.left l
    → a.one.symbols ≡ Token t ∷ y → a.other.symbols ≡ Token t ∷ z → Holds g h a n
    → (m : ℕ) × (m < n) × Holds g h (record a { one = with_symbols a.one y; other = with_symbols a.other z; next = None; left = l }) m
taken {g} t y z s e f k =
    let one = side_takes t y e k.one in
    let other = side_takes t z f k.other in (
      one.less + other.less,
      omega (arith, k.weighs, one.weighs, other.weighs),
      record {
        roots = k.roots;
        state = k.state;
        leads = k.leads;
        within = k.within;
        one_text = drop 1 k.one_text;
        other_text = drop 1 k.other_text;
        one_weight = one.less;
        other_weight = other.less;
        one = one.holds;
        other = other.holds;
        agree = (agree_next g k.one_text k.other_text s k.agree).1;
        next = λ u i. cc;
        weighs = refl;
      },
    )
