-- the item that is open on a stack from which moves read a text, and forests that go before such moves
use Rattle.std.proofs.Common.{◌≡◌, ◌≢◌, ℕ, suc, ◌<◌, ◌≤◌, ◌⊎◌, inl, inr, List, [], ◌∷◌, ◌++◌, length, take, drop, refl, sym, ap, ◌∙◌, append_assoc, append-nil, length-append, arith}
use Rattle.std.proofs.lemmas.List.{take-append-drop}
use Rattle.lrspec.specs.grammars.Grammar.{Symbol, Rule, Token, Grammar, IsGrammar, body_of, rest, IsProductionOf}
use Rattle.lrspec.specs.grammars.Trees.{Tree, Forest, Leaf, Node, Bare, And, leaves, forest_leaves, joined, IsTree, IsForest, token, production, bare, and}
use Rattle.lrspec.proofs.grammars.TreeFacts.{forest_split, forest_joined, leaves_pushed, node_leaves}
use Rattle.lrspec.proofs.tables.MachineStacks.{start_body}
use Rattle.lrconflicts.specs.Moves.{Move, Shift, Reduce, moves_of, forest_moves}
use Rattle.lrambiguity.proofs.ReadingSteps.{moves_pushed, node_moves}
use Rattle.lrambiguity.specs.Finishing as way
use Rattle.lrambiguity.specs.Finishing.{Finishes}

mutual
  -- what a tree derives may stand in the place of its symbol, where its moves and leaves come before
  pub finish_tree :
      {g : Grammar} {x : Symbol} {t : Tree} → IsTree g x t → {v : List Symbol} {ms : List Move} {text : List ℕ}
      → Finishes g (v ++ x ∷ []) ms text → Finishes g v (moves_of t ++ ms) (leaves t ++ text)
  finish_tree (token {t = t}) f = way.Finishes.shift t f
  finish_tree (production {p = p} {r = r} {ts = ts} i k) {v} {ms} f =
      rw (append_assoc (forest_moves ts) (Reduce p ∷ []) ms) (finish_forest k (way.Finishes.reduce v p r i f))

  -- and what trees in a row derive in that of their symbols
  pub finish_forest :
      {g : Grammar} {xs : List Symbol} {ts : Forest} → IsForest g xs ts → {v : List Symbol} {ms : List Move} {text : List ℕ}
      → Finishes g (v ++ xs) ms text → Finishes g v (forest_moves ts ++ ms) (forest_leaves ts ++ text)
  finish_forest bare {v} f = rw (append-nil v) at f
  finish_forest (and {x = x} {xs = xs} {t = t} {ts = ts} i k) {v} {ms} {text} f =
      rw (append_assoc (moves_of t) (forest_moves ts) ms, append_assoc (leaves t) (forest_leaves ts) text)
      (finish_tree i (finish_forest k (rw (append_assoc v (x ∷ []) xs) f)))

-- what derives the rest of a body, and the reduction by it, go before what goes on with the rule
pub finish_body :
    {g : Grammar} (v : List Symbol) (p d r : ℕ) {ts : Forest} {ms : List Move} {text : List ℕ} → IsProductionOf g p r → IsForest g (rest g p d) ts
    → Finishes g (v ++ Rule r ∷ []) ms text
    → Finishes g (v ++ take d (body_of g p)) (forest_moves ts ++ Reduce p ∷ ms) (forest_leaves ts ++ text)
finish_body {g} v p d r i k f =
    finish_forest k (rw (append_assoc v (take d (body_of g p)) (rest g p d), take-append-drop d (body_of g p)) (way.Finishes.reduce v p r i f))

-- the item of the production is open on the stack: its first symbols end the stack, a forest derives the rest of its body, and
-- with its rule in the place of its body the stack goes on
pub record Opens (g : Grammar) (v : List Symbol) (p d : ℕ) (ms : List Move) (text : List ℕ) : Type 0 where
  pub front : List Symbol
  pub rule : ℕ
  pub trees : Forest
  pub after : List Move
  pub behind : List ℕ
  pub stack : v ≡ front ++ take d (body_of g p)
  pub within : d ≤ length (body_of g p)
  pub of_rule : IsProductionOf g p rule
  pub forest : IsForest g (rest g p d) trees
  pub moves : ms ≡ forest_moves trees ++ Reduce p ∷ after
  pub texts : text ≡ forest_leaves trees ++ behind
  pub finishes : Finishes g (front ++ Rule rule ∷ []) after behind

-- from where an item is open the moves read the text
pub closes : {g : Grammar} {v : List Symbol} {p d : ℕ} {ms : List Move} {text : List ℕ} → Opens g v p d ms text → Finishes g v ms text
closes {g} {p = p} {d = d} o = rw (o.stack, o.moves, o.texts) (finish_body o.front p d o.rule o.of_rule o.forest o.finishes)

-- the stack is the start rule alone and all is done, or an item is open on it with its dot above 0
abbrev pub OpenItem : Grammar → List Symbol → List Move → List ℕ → Type 0
OpenItem g v ms text =
    ((v ≡ body_of g g.start_production) × (ms ≡ []) × (text ≡ [])) ⊎ ((p : ℕ) × (d : ℕ) × (0 < d) × Opens g v p d ms text)

-- of a list that is split twice, the end of the first split is within that of the second, or holds the symbol before it
two_splits :
    (v b w : List Symbol) (x : Symbol) (y : List Symbol) → v ++ b ≡ w ++ x ∷ y
    → ((z : List Symbol) × (v ≡ w ++ x ∷ z) × (y ≡ z ++ b)) ⊎ ((z : List Symbol) × (w ≡ v ++ z) × (b ≡ z ++ x ∷ y))
two_splits [] b w x y e = inr (w, refl, e)
two_splits (a ∷ v) b [] x y e = let head : a ≡ x = cc in inl (v, ap (λ s. s ∷ v) head, cc)
two_splits (a ∷ v) b (c ∷ w) x y e =
    let head : a ≡ c = cc in
    let tail : v ++ b ≡ w ++ x ∷ y = cc in
    elim (two_splits v b w x y tail) [
      | inl k ↦ inl (k.0, ap (λ l. a ∷ l) k.1 ∙ ap (λ s. s ∷ w ++ x ∷ k.0) head, k.2)
      | inr k ↦ inr (k.0, ap (λ l. c ∷ l) k.1 ∙ ap (λ s. s ∷ v ++ k.0) (sym head), k.2)
    ]

-- a list of one symbol is split around that alone
split_of_one : (s : Symbol) (w : List Symbol) (x : Symbol) (y : List Symbol) → s ∷ [] ≡ w ++ x ∷ y → y ≡ []
split_of_one s [] x y e = cc
split_of_one s (a ∷ []) x y e = absurd cc
split_of_one s (a ∷ b ∷ w) x y e = absurd cc

-- the symbols up to one of a list, and those behind it
take_up_to : (z : List Symbol) (x : Symbol) (y : List Symbol) → take (suc (length z)) (z ++ x ∷ y) ≡ z ++ x ∷ []
take_up_to [] x y = refl
take_up_to (a ∷ z) x y = ap (λ l. a ∷ l) (take_up_to z x y)

drop_up_to : (z : List Symbol) (x : Symbol) (y : List Symbol) → drop (suc (length z)) (z ++ x ∷ y) ≡ y
drop_up_to [] x y = refl
drop_up_to (a ∷ z) x y = drop_up_to z x y

-- no trees are for no symbols
no_trees : {g : Grammar} {y : List Symbol} {ts : Forest} → IsForest g y ts → y ≡ [] → ts ≡ Bare
no_trees bare e = refl
no_trees (and t f) e = absurd cc

-- a list is empty or has a last symbol
pub empty_or_last : (v : List Symbol) → (v ≡ []) ⊎ ((w : List Symbol) × (x : Symbol) × (v ≡ w ++ x ∷ []))
empty_or_last [] = inl refl
empty_or_last (x ∷ v) = elim (empty_or_last v) [
  | inl e ↦ inr ([], x, ap (λ l. x ∷ l) e)
  | inr k ↦ inr (x ∷ k.0, k.1, ap (λ l. x ∷ l) k.2)
]

-- a production whose body has the symbol that ends the stack is open there, where a forest is behind it
opens_in_body :
    {g : Grammar} (u z : List Symbol) {v : List Symbol} (x : Symbol) {y : List Symbol} {ts : Forest} {ms : List Move} {text : List ℕ} (p r : ℕ) → IsProductionOf g p r
    → v ≡ u ++ z → body_of g p ≡ z ++ x ∷ y → IsForest g y ts → Finishes g (u ++ Rule r ∷ []) ms text
    → Opens g (v ++ x ∷ []) p (suc (length z)) (forest_moves ts ++ Reduce p ∷ ms) (forest_leaves ts ++ text)
opens_in_body {g} u z {v} x {y} {ts} {ms} {text} p r i e body k f = record {
  front = u;
  rule = r;
  trees = ts;
  after = ms;
  behind = text;
  stack = rw (body, take_up_to z x y, e) (append_assoc u z (x ∷ []));
  within = rw body (omega (arith, length-append z (x ∷ y)));
  of_rule = i;
  forest = rw (body, drop_up_to z x y) k;
  moves = refl;
  texts = refl;
  finishes = f;
}

module _ {g : Grammar} (shape : IsGrammar g) where
  -- an item is open on a stack with a forest for what is behind it, where moves read the text from both
  open_before :
      {w : List Symbol} {ms : List Move} {text : List ℕ} → Finishes g w ms text
      → (v : List Symbol) (x : Symbol) (y : List Symbol) (ts : Forest) → w ≡ v ++ x ∷ y → IsForest g y ts
      → OpenItem g (v ++ x ∷ []) (forest_moves ts ++ ms) (forest_leaves ts ++ text)
  open_before way.Finishes.done v x y ts e k =
      let last = split_of_one (Rule shape.start.0) v x y (sym (start_body shape) ∙ e) in
      let none = no_trees k last in
      inl (sym (e ∙ ap (λ l. v ++ x ∷ l) last), ap (λ us. forest_moves us ++ []) none, ap (λ us. forest_leaves us ++ []) none)
  open_before (way.Finishes.shift {ms = ms} {text = text} t f) v x y ts e k =
      rw (moves_pushed ts (Leaf t), append_assoc (forest_moves ts) (Shift ∷ []) ms, leaves_pushed ts (Leaf t), append_assoc (forest_leaves ts) (t ∷ []) text) at
      (open_before f v x (y ++ Token t ∷ []) (joined ts (And (Leaf t) Bare))
      (ap (λ l. l ++ Token t ∷ []) e ∙ append_assoc v (x ∷ y) (Token t ∷ [])) (forest_joined k (and token bare)))
  open_before (way.Finishes.reduce {ms = ms} {text = text} u p r i f) v x y ts e k = elim (two_splits u (body_of g p) v x y e) [
    | inl s ↦
        let (us, zs, front, last, parts) = forest_split s.0 (body_of g p) y k s.2 in
        rw (node_moves p us zs, node_leaves p us zs, ← parts, append_assoc (forest_moves ts) (Reduce p ∷ []) ms) at
        (open_before f v x (s.0 ++ Rule r ∷ []) (joined us (And (Node p zs) Bare))
        (ap (λ l. l ++ Rule r ∷ []) s.1 ∙ append_assoc v (x ∷ s.0) (Rule r ∷ [])) (forest_joined front (and (production i last) bare)))
    | inr s ↦ inr (p, suc (length s.0), omega arith, opens_in_body u s.0 x p r i s.1 s.2 k f)
  ]

  -- so one is open on each stack that is not empty
  pub open_item : {v : List Symbol} {ms : List Move} {text : List ℕ} → Finishes g v ms text → v ≢ [] → OpenItem g v ms text
  open_item {v} f differ = elim (empty_or_last v) [
    | inl e ↦ absurd (differ e)
    | inr k ↦ rw k.2 (open_before f k.0 k.1 [] Bare k.2 bare)
  ]
