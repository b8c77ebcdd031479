-- two ways to read that stand as a node says
use Rattle.std.proofs.Common.{◌≡◌, ℕ, zero, suc, ◌+◌, false, List, [], ◌++◌, Option, None, Some, refl, sym, ap, ◌∙◌, ◌⊎◌, inl, inr, append_assoc, arith}
use Rattle.std.specs.Prelude.{drop, Contains}
use Rattle.lrspec.specs.grammars.Grammar.{Symbol, Grammar}
use Rattle.lrspec.specs.grammars.Trees.{Forest, forest_leaves, IsForest}
use Rattle.lrspec.specs.grammars.First.{AllNullable, Begins}
use Rattle.lrspec.specs.merging.Graph.{Graph, Leads}
use Rattle.lrspec.specs.tables.Machine.{next_token}
use Rattle.lrspec.proofs.grammars.TreeFacts.{forest_split, leaves_joined}
use Rattle.lrspec.proofs.tables.NextTokens.{forest_begins}
use Rattle.lrdecided.specs.Agreements as agreement
use Rattle.lrdecided.specs.Agreements.{AgreeIn, Agree, Spends}
use Rattle.lrdecided.specs.Nodes as nodes
use Rattle.lrdecided.specs.Nodes.{Side, swap}
use Rattle.lrdecided.proofs.OpenItems.{Open, weight}

-- agreement goes both ways
agree_in_swap : (g : Grammar) (n : ℕ) (a b : List ℕ) → AgreeIn g n a b → AgreeIn g n b a
agree_in_swap g zero a b k = tt
agree_in_swap g (suc n) a b k = (sym k.0, agree_in_swap g n (drop 1 a) (drop 1 b) k.1)

pub agree_swap : (g : Grammar) (l : Option ℕ) (a b : List ℕ) → Agree g l a b → Agree g l b a
agree_swap g None a b k = sym k
agree_swap g (Some n) a b k = agree_in_swap g n a b k

-- of texts that agree in a token more, the next ones are the same, and the others agree
pub agree_next : (g : Grammar) (a b : List ℕ) {l k : Option ℕ} → Spends l k → Agree g l a b → (next_token g a ≡ next_token g b) × Agree g k (drop 1 a) (drop 1 b)
agree_next g a b agreement.Spends.all e = (ap (next_token g) e, ap (drop 1) e)
agree_next g a b (agreement.Spends.one n) e = e

-- after the symbols a way stands as the side says, and the text comes behind that, with trees for all that the side derives:
-- for its symbols, and, where it is cut, for others behind them
pub record SideHolds (g : Grammar) (w : List Symbol) (a : Side) (text : List ℕ) (n : ℕ) : Type 0 where
  pub behind : List ℕ
  pub depth : ℕ
  pub item : Open g w a.production a.dot behind depth
  pub others : List Symbol
  pub trees : Forest
  pub forest : IsForest g (a.symbols ++ others) trees
  pub whole : a.is_cut ≡ false → others ≡ []
  pub splits : text ≡ forest_leaves trees ++ behind
  pub weighs : n ≡ depth + weight trees

-- two ways stand as the node says, with so much to come
pub record Holds (g : Grammar) (h : Graph) (a : nodes.Node) (n : ℕ) : Type 0 where
  pub roots : List Symbol
  pub state : ℕ
  pub leads : Leads h roots state
  pub within : Contains a.states state
  pub one_text : List ℕ
  pub other_text : List ℕ
  pub one_weight : ℕ
  pub other_weight : ℕ
  pub one : SideHolds g roots a.one one_text one_weight
  pub other : SideHolds g roots a.other other_text other_weight
  pub agree : Agree g a.left one_text other_text
  pub next : (t : ℕ) → a.next ≡ Some t → (next_token g one_text ≡ t) × (next_token g other_text ≡ t)
  pub weighs : n ≡ one_weight + other_weight

-- they may be exchanged
pub holds_swapped : {g : Grammar} {h : Graph} {a : nodes.Node} {n : ℕ} → Holds g h a n → Holds g h (swap a) n
holds_swapped {g} {h} {a} k = record {
  roots = k.roots;
  state = k.state;
  leads = k.leads;
  within = k.within;
  one_text = k.other_text;
  other_text = k.one_text;
  one_weight = k.other_weight;
  other_weight = k.one_weight;
  one = k.other;
  other = k.one;
  agree = agree_swap g a.left k.one_text k.other_text k.agree;
  next = λ t e. let both = k.next t e in (both.1, both.0);
  weighs = omega (arith, k.weighs);
}

-- the next token begins the symbols of a side, or they are nullable
pub side_begins : {g : Grammar} {w : List Symbol} {a : Side} {text : List ℕ} {n : ℕ} → SideHolds g w a text n → Begins g a.symbols (next_token g text) ⊎ AllNullable g a.symbols
side_begins {g} {w} {a} {text} k =
    let (us, zs, f, i, e) = forest_split a.symbols k.others (a.symbols ++ k.others) k.forest refl in
    let same : text ≡ forest_leaves us ++ (forest_leaves zs ++ k.behind) =
    k.splits ∙ (ap (λ ts. forest_leaves ts ++ k.behind) e ∙ (ap (λ l. l ++ k.behind) (leaves_joined us zs) ∙ append_assoc (forest_leaves us) (forest_leaves zs) k.behind)) in
    elim (forest_begins (forest_leaves zs ++ k.behind) f) [
      | inl b ↦ inl (rw same b)
      | inr c ↦ inr c.0
    ]
