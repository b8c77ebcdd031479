-- items at whose dots a tree stands open, with the text behind them
use Rattle.std.proofs.Common.{◌≡◌, ◌≢◌, ℕ, suc, ◌+◌, List, [], ◌∷◌, ◌++◌, refl, arith}
use Rattle.lrspec.specs.grammars.Grammar.{Symbol, Rule, Grammar, IsGrammar, rest, IsProductionOf}
use Rattle.lrspec.specs.grammars.Trees.{Tree, Forest, Leaf, Node, Bare, And, forest_leaves, joined, IsForest}
use Rattle.lrspec.specs.grammars.CanonicalItems as item
use Rattle.lrspec.specs.grammars.CanonicalItems.{Stands}
use Rattle.lrspec.proofs.grammars.BodyFacts.{start_not_before}

abbrev mutual
  -- how many leaves and productions a tree has
  pub tree_weight : Tree → ℕ
  tree_weight (Leaf t) = 1
  tree_weight (Node p ts) = suc (weight ts)

  -- and trees in a row
  pub weight : Forest → ℕ
  weight Bare = 0
  weight (And t ts) = tree_weight t + weight ts

-- those of two forests
pub weight_joined : (ts us : Forest) → weight (joined ts us) ≡ weight ts + weight us
weight_joined Bare us = omega arith
weight_joined (And t ts) us = let k : weight (joined ts us) ≡ weight ts + weight us = weight_joined ts us in omega arith

-- in a tree that is half read, after the symbols, the item is open at its dot: the text is what comes behind its production,
-- and the number weighs that and how deep the item stands
pub data Open (g : Grammar) : List Symbol → ℕ → ℕ → List ℕ → ℕ → Type 0 where
  start : Open g [] g.start_production 0 [] 0
  inside :
      {w : List Symbol} {p d q r n : ℕ} {x : List ℕ} {y : List Symbol} {ts : Forest}
      → Open g w p d x n → rest g p d ≡ Rule r ∷ y → IsProductionOf g q r → IsForest g y ts
      → Open g w q 0 (forest_leaves ts ++ x) (suc (n + weight ts))
  advance :
      {w : List Symbol} {p d n : ℕ} {x : List ℕ} {s : Symbol} {y : List Symbol}
      → Open g w p d x n → rest g p d ≡ s ∷ y
      → Open g (w ++ s ∷ []) p (suc d) x (suc n)

-- an open item stands
pub open_stands : {g : Grammar} {w : List Symbol} {p d n : ℕ} {x : List ℕ} → Open g w p d x n → Stands g w p d
open_stands Open.start = item.Stands.begin
open_stands (Open.inside o e i f) = item.Stands.expand (open_stands o) e i
open_stands (Open.advance o e) = item.Stands.advance (open_stands o) e

-- what there is before the last symbol, where the dot is above 0
pub record Before (g : Grammar) (w : List Symbol) (p d : ℕ) (x : List ℕ) (n : ℕ) : Type 0 where
  pub front : List Symbol
  pub last : Symbol
  pub depth : ℕ
  pub splits : w ≡ front ++ last ∷ []
  pub item : Open g front p d x depth
  pub weighs : n ≡ suc depth

pub open_before : {g : Grammar} {w : List Symbol} {p e n : ℕ} {x : List ℕ} → Open g w p e x n → (d : ℕ) → e ≡ suc d → Before g w p d x n
open_before Open.start d k = absurd cc
open_before (Open.inside o e i f) d k = absurd cc
open_before {g = g} (Open.advance {w = w} {p = p} {d = c} {n = n} {x = x} {s = s} o e) d k =
    let same : c ≡ d = cc in
    record { front = w; last = s; depth = n; splits = refl; item = rw same at o; weighs = refl }

-- the item outside, where the dot is at 0
pub record Outside (g : Grammar) (w : List Symbol) (q : ℕ) (x : List ℕ) (n : ℕ) : Type 0 where
  pub production : ℕ
  pub dot : ℕ
  pub rule : ℕ
  pub symbols : List Symbol
  pub behind : List ℕ
  pub trees : Forest
  pub depth : ℕ
  pub item : Open g w production dot behind depth
  pub before_rule : rest g production dot ≡ Rule rule ∷ symbols
  pub of_rule : IsProductionOf g q rule
  pub forest : IsForest g symbols trees
  pub splits : x ≡ forest_leaves trees ++ behind
  pub weighs : n ≡ suc (depth + weight trees)

pub open_outside : {g : Grammar} {w : List Symbol} {q d n : ℕ} {x : List ℕ} → Open g w q d x n → d ≡ 0 → q ≢ g.start_production → Outside g w q x n
open_outside Open.start z k = absurd (k refl)
open_outside (Open.inside {p = p} {d = d} {r = r} {n = n} {x = x} {y = y} {ts = ts} o e i f) z k = record {
  production = p;
  dot = d;
  rule = r;
  symbols = y;
  behind = x;
  trees = ts;
  depth = n;
  item = o;
  before_rule = e;
  of_rule = i;
  forest = f;
  splits = refl;
  weighs = refl;
}
open_outside (Open.advance o e) z k = absurd cc

-- nothing is behind the start production
pub open_at_start : {g : Grammar} → IsGrammar g → {w : List Symbol} {q d n : ℕ} {x : List ℕ} → Open g w q d x n → q ≡ g.start_production → d ≡ 0 → x ≡ []
open_at_start shape Open.start e z = refl
open_at_start {g} shape (Open.inside {p = p} {d = d} {q = q} {r = r} {y = y} o b i f) e z = absurd (start_not_before shape p d r (y, b) (rw e at i))
open_at_start shape (Open.advance o b) e z = absurd cc
