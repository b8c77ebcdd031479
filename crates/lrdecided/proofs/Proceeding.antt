-- where a node proceeds, two ways that stand as it says stand as one of its moves says, with less to come
use Rattle.std.proofs.Common.{◌≡◌, ◌≢◌, ℕ, suc, ◌+◌, ◌<◌, Bool, true, false, cond, List, [], ◌∷◌, ◌++◌, Some, refl, sym, ap, ◌∙◌, append_assoc, append-nil, arith}
use Rattle.lrspec.specs.grammars.Grammar.{Symbol, Rule, Grammar, body_of, rest, IsProductionOf}
use Rattle.lrspec.specs.grammars.Trees.{Forest, forest_leaves, joined, IsForest, token, production, bare, and}
use Rattle.lrspec.specs.merging.Graph as graph
use Rattle.lrspec.specs.merging.Graph.{Graph, Leads, IsGraphOf, edge, closed_of}
use Rattle.lrspec.proofs.grammars.BodyFacts.{push_same, push_not_empty}
use Rattle.lrspec.proofs.grammars.TreeFacts.{forest_joined, leaves_joined}
use Rattle.lrdecided.specs.Nodes as nodes
use Rattle.lrdecided.specs.Nodes.{Side, swap, with_symbols, outside}
use Rattle.lrdecided.specs.Rules as rule
use Rattle.lrdecided.specs.Rules.{Proceeds}
use Rattle.lrdecided.proofs.OpenItems.{weight, weight_joined, open_before, open_outside, open_stands}
use Rattle.lrdecided.proofs.Ways.{SideHolds, Holds, holds_swapped}

-- a forest whose first symbol is a rule has there a production of that rule, over trees for its body
record FirstNode (g : Grammar) (r : ℕ) (y : List Symbol) (ts : Forest) : Type 0 where
  production : ℕ
  trees : Forest
  of_rule : IsProductionOf g production r
  forest : IsForest g (body_of g production ++ y) trees
  leaves : forest_leaves ts ≡ forest_leaves trees
  weighs : weight ts ≡ suc (weight trees)

first_node : {g : Grammar} {x : List Symbol} {ts : Forest} → IsForest g x ts → (r : ℕ) (y : List Symbol) → x ≡ Rule r ∷ y → FirstNode g r y ts
first_node bare r y e = absurd cc
first_node (and token f) r y e = absurd cc
first_node {g} (and {xs = xs} {ts = us} (production {p = p} {r = s} {ts = ts} i j) f) r y e =
    let tail : xs ≡ y = cc in
    let head : s ≡ r = cc in
    record {
      production = p;
      trees = joined ts us;
      of_rule = rw head at i;
      forest = rw tail at (forest_joined j f);
      leaves = sym (leaves_joined ts us);
      weighs = omega (arith, weight_joined ts us);
    }

-- a side of which a node is opened
record Expands (g : Grammar) (w : List Symbol) (a : Side) (r : ℕ) (y : List Symbol) (text : List ℕ) (n : ℕ) : Type 0 where
  production : ℕ
  of_rule : IsProductionOf g production r
  less : ℕ
  holds : SideHolds g w (with_symbols a (body_of g production ++ y)) text less
  weighs : n ≡ suc less

side_expands : {g : Grammar} {w : List Symbol} {a : Side} {text : List ℕ} {n : ℕ} (r : ℕ) (y : List Symbol) → a.symbols ≡ Rule r ∷ y → SideHolds g w a text n → Expands g w a r y text n
side_expands {g} r y e k =
    let one = first_node k.forest r (y ++ k.others) (ap (λ l. l ++ k.others) e) in record {
      production = one.production;
      of_rule = one.of_rule;
      less = k.depth + weight one.trees;
      holds = record {
        behind = k.behind;
        depth = k.depth;
        item = k.item;
        others = k.others;
        trees = one.trees;
        forest = rw (append_assoc (body_of g one.production) y k.others) one.forest;
        whole = k.whole;
        splits = k.splits ∙ ap (λ l. l ++ k.behind) one.leaves;
        weighs = refl;
      };
      weighs = k.weighs ∙ omega (arith, one.weighs);
    }

-- a side that goes back over a symbol
record GoesBack (g : Grammar) (w : List Symbol) (a : Side) (d : ℕ) (text : List ℕ) (n : ℕ) : Type 0 where
  front : List Symbol
  last : Symbol
  roots : w ≡ front ++ last ∷ []
  less : ℕ
  holds : SideHolds g front (record a { dot = d }) text less
  weighs : n ≡ suc less

side_back : {g : Grammar} {w : List Symbol} {a : Side} {text : List ℕ} {n : ℕ} (d : ℕ) → a.dot ≡ suc d → SideHolds g w a text n → GoesBack g w a d text n
side_back d e k =
    let one = open_before k.item d e in record {
      front = one.front;
      last = one.last;
      roots = one.splits;
      less = one.depth + weight k.trees;
      holds = record {
        behind = k.behind;
        depth = one.depth;
        item = one.item;
        others = k.others;
        trees = k.trees;
        forest = k.forest;
        whole = k.whole;
        splits = k.splits;
        weighs = refl;
      };
      weighs = k.weighs ∙ omega (arith, one.weighs);
    }

-- a list with a last symbol that leads to a state leads over an edge on that symbol
leads_over : {h : Graph} {v : List Symbol} {u : ℕ} → Leads h v u → (w : List Symbol) (x : Symbol) → v ≡ w ++ x ∷ [] → (s : ℕ) × Leads h w s × (edge h s x ≡ Some u)
leads_over graph.Leads.start w x e = absurd (push_not_empty w x (sym e))
leads_over {h} {u = u} (graph.Leads.follow {w = v} {s = s} y l f) w x e =
    let both = push_same v w y x e in (s, rw both.0 at l, rw both.1 at f)

-- a side that goes out to the item around its own
record GoesOut (g : Grammar) (w : List Symbol) (a : Side) (text : List ℕ) (n : ℕ) : Type 0 where
  production : ℕ
  dot : ℕ
  rule : ℕ
  symbols : List Symbol
  of_rule : IsProductionOf g a.production rule
  before_rule : rest g production dot ≡ Rule rule ∷ symbols
  less : ℕ
  holds : SideHolds g w (outside a production dot symbols) text less
  weighs : n ≡ suc less

-- what is not known then: nothing more, where the side is whole, and else also what is behind the rule
unknown : (cut : Bool) (x y others : List Symbol) → (cut ≡ false → others ≡ []) → (more : List Symbol) × ((cond cut x (x ++ y)) ++ more ≡ (x ++ others) ++ y) × (cut ≡ false → more ≡ [])
unknown true x y others whole = (others ++ y, sym (append_assoc x others y), λ e. cc)
unknown false x y others whole =
    let none = whole refl in
    ([], append-nil (x ++ y) ∙ ap (λ l. l ++ y) (sym (append-nil x) ∙ ap (λ l. x ++ l) (sym none)), λ e. refl)

side_out : {g : Grammar} {w : List Symbol} {a : Side} {text : List ℕ} {n : ℕ} → a.dot ≡ 0 → a.production ≢ g.start_production → SideHolds g w a text n → GoesOut g w a text n
side_out {g} {w} {a} {text} {n} z differ k =
    let one = open_outside k.item z differ in
    let (more, same, whole) = unknown a.is_cut a.symbols one.symbols k.others k.whole in
    let leaves : forest_leaves k.trees ++ (forest_leaves one.trees ++ one.behind) ≡ forest_leaves (joined k.trees one.trees) ++ one.behind =
    sym (append_assoc (forest_leaves k.trees) (forest_leaves one.trees) one.behind) ∙ ap (λ l. l ++ one.behind) (sym (leaves_joined k.trees one.trees)) in
    record {
      production = one.production;
      dot = one.dot;
      rule = one.rule;
      symbols = one.symbols;
      of_rule = one.of_rule;
      before_rule = one.before_rule;
      less = one.depth + weight (joined k.trees one.trees);
      holds = record {
        behind = one.behind;
        depth = one.depth;
        item = one.item;
        others = more;
        trees = joined k.trees one.trees;
        forest = rw same (forest_joined k.forest one.forest);
        whole = whole;
        splits = k.splits ∙ (ap (λ l. forest_leaves k.trees ++ l) one.splits ∙ leaves);
        weighs = refl;
      };
      weighs = k.weighs ∙ omega (arith, one.weighs, weight_joined k.trees one.trees);
    }

module _ (g : Grammar) (h : Graph) (m : IsGraphOf g h) (Member : nodes.Node → Type 0) where
  -- a member as which they stand, with less to come than that
  pub record ProceedsTo (n : ℕ) : Type 0 where
    pub node : nodes.Node
    pub member : Member node
    pub less : ℕ
    pub below : less < n
    pub holds : Holds g h node less

  pub proceeds : {a : nodes.Node} {n : ℕ} → Proceeds g h Member a → Holds g h a n → ProceedsTo n
  proceeds {a} (rule.Proceeds.expand r y e go) k =
      let one = side_expands r y e k.one in record {
        node = record a { one = with_symbols a.one (body_of g one.production ++ y) };
        member = go one.production one.of_rule;
        less = one.less + k.other_weight;
        below = omega (arith, k.weighs, one.weighs);
        holds = record {
          roots = k.roots;
          state = k.state;
          leads = k.leads;
          within = k.within;
          one_text = k.one_text;
          other_text = k.other_text;
          one_weight = one.less;
          other_weight = k.other_weight;
          one = one.holds;
          other = k.other;
          agree = k.agree;
          next = k.next;
          weighs = refl;
        };
      }
  proceeds {a} (rule.Proceeds.back d e states i j before go) k =
      let one = side_back d i k.one in
      let other = side_back e j k.other in
      let same = push_same other.front one.front other.last one.last (sym other.roots ∙ one.roots) in
      let (s, leads, over) = leads_over k.leads one.front one.last one.roots in
      record {
        node = record {
          one = record a.one { dot = d };
          other = record a.other { dot = e };
          states = states;
          next = a.next;
          left = a.left;
        };
        member = go;
        less = one.less + other.less;
        below = omega (arith, k.weighs, one.weighs, other.weighs);
        holds = record {
          roots = one.front;
          state = s;
          leads = leads;
          within = before s k.state one.last k.within over;
          one_text = k.one_text;
          other_text = k.other_text;
          one_weight = one.less;
          other_weight = other.less;
          one = one.holds;
          other = rw same.0 at other.holds;
          agree = k.agree;
          next = k.next;
          weighs = refl;
        };
      }
  proceeds {a} (rule.Proceeds.close z differ go) k =
      let one = side_out z differ k.one in
      let (states, kept, member) = go one.production one.dot one.rule one.symbols one.of_rule one.before_rule in
      record {
        node = record a { one = outside a.one one.production one.dot one.symbols; states = states };
        member = member;
        less = one.less + k.other_weight;
        below = omega (arith, k.weighs, one.weighs);
        holds = record {
          roots = k.roots;
          state = k.state;
          leads = k.leads;
          within = kept k.state k.within ((m.hold.closed k.roots k.state one.production one.dot k.leads).1 (open_stands one.holds.item));
          one_text = k.one_text;
          other_text = k.other_text;
          one_weight = one.less;
          other_weight = k.other_weight;
          one = one.holds;
          other = k.other;
          agree = k.agree;
          next = k.next;
          weighs = refl;
        };
      }
  proceeds {a} (rule.Proceeds.swapped p) k = proceeds p (holds_swapped k)
