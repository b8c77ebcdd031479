-- what each move makes of the trees in a row, and when they are a tree of the text
use Rattle.std.proofs.Common.{◌≡◌, ℕ, List, [], ◌∷◌, ◌++◌, length, refl, sym, ap, ◌∙◌, append_assoc, append-nil}
use Rattle.lrspec.specs.grammars.Grammar.{Symbol, Rule, Token, Grammar, body_of, IsProductionOf}
use Rattle.lrspec.specs.grammars.Trees.{Tree, Forest, Leaf, Node, Bare, And, leaves, forest_leaves, joined, size, token, production, bare, and}
use Rattle.lrspec.proofs.grammars.TreeFacts.{leaves_pushed, node_leaves, forest_joined, forest_parts, forest_alone}
use Rattle.lrconflicts.specs.Moves.{Move, Shift, Reduce, moves_of, forest_moves, IsTreeBy}
use Rattle.lrambiguity.specs.Replays.{Reads}

-- the moves of trees in a row, one list after the other
pub moves_joined : (ts us : Forest) → forest_moves (joined ts us) ≡ forest_moves ts ++ forest_moves us
moves_joined Bare us = refl
moves_joined (And t ts) us = rw (append_assoc (moves_of t) (forest_moves ts) (forest_moves us)) (ap (λ l. moves_of t ++ l) (moves_joined ts us))

-- a tree behind others is made last
pub moves_pushed : (ts : Forest) (t : Tree) → forest_moves (joined ts (And t Bare)) ≡ forest_moves ts ++ moves_of t
moves_pushed ts t = moves_joined ts (And t Bare) ∙ ap (λ l. forest_moves ts ++ l) (append-nil (moves_of t))

-- to put the last trees under a production is one move more
pub node_moves : (p : ℕ) (us zs : Forest) → forest_moves (joined us (And (Node p zs) Bare)) ≡ forest_moves (joined us zs) ++ Reduce p ∷ []
node_moves p us zs =
    moves_pushed us (Node p zs)
    ∙ (sym (append_assoc (forest_moves us) (forest_moves zs) (Reduce p ∷ [])) ∙ ap (λ l. l ++ Reduce p ∷ []) (sym (moves_joined us zs)))

-- no moves read the empty text as no trees
pub read_nothing : (g : Grammar) → Reads g [] [] [] Bare
read_nothing g = record { roots = bare; used = refl; made = refl }

-- a shift puts a leaf behind the trees
pub read_shift :
    {g : Grammar} {ms : List Move} {text : List ℕ} {w : List Symbol} {ts : Forest} (t : ℕ) → Reads g ms text w ts
    → Reads g (ms ++ Shift ∷ []) (text ++ t ∷ []) (w ++ Token t ∷ []) (joined ts (And (Leaf t) Bare))
read_shift {ts = ts} t a = record {
  roots = forest_joined a.roots (and token bare);
  used = leaves_pushed ts (Leaf t) ∙ ap (λ l. l ++ t ∷ []) a.used;
  made = moves_pushed ts (Leaf t) ∙ ap (λ l. l ++ Shift ∷ []) a.made;
}

-- a reduction puts the last trees, one for each symbol of the body, under its production
pub read_reduce :
    {g : Grammar} {ms : List Move} {text : List ℕ} {x : List Symbol} {ts : Forest} (p r : ℕ) (w : List Symbol) (us zs : Forest) → Reads g ms text x ts
    → x ≡ w ++ body_of g p → IsProductionOf g p r → ts ≡ joined us zs → size zs ≡ length (body_of g p)
    → Reads g (ms ++ Reduce p ∷ []) text (w ++ Rule r ∷ []) (joined us (And (Node p zs) Bare))
read_reduce {g} {x = x} {ts} p r w us zs a e i f n =
    let parts = forest_parts w (body_of g p) x us zs ts a.roots e f n in
    record {
      roots = forest_joined parts.0 (and (production i parts.1) bare);
      used = node_leaves p us zs ∙ ap forest_leaves (sym f) ∙ a.used;
      made = node_moves p us zs ∙ ap (λ l. l ++ Reduce p ∷ []) (ap forest_moves (sym f) ∙ a.made);
    }

-- one tree whose root is the start rule is a tree of the text
pub read_tree :
    {g : Grammar} {ms : List Move} {text : List ℕ} {w : List Symbol} (r : ℕ) (t : Tree) → Reads g ms text w (And t Bare) → w ≡ Rule r ∷ [] → body_of g g.start_production ≡ Rule r ∷ []
    → IsTreeBy g ms text t
read_tree r t a e start =
    let (u, i, same) = forest_alone (Rule r) a.roots e in
    let is : t ≡ u = cc in
    record {
      of_start = record { rule = r; start = start; is_tree = rw is i };
      leaves_are = sym (append-nil (leaves t)) ∙ a.used;
      moves_are = sym (append-nil (moves_of t)) ∙ a.made;
    }
