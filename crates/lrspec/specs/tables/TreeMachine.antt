-- the trees that the machine puts together: of each token that it shifts a leaf, and of each
-- reduction a node over the last trees
use Rattle.std.specs.Prelude.{ℕ, zero, suc, ◌-◌, List, length}
use Rattle.lrspec.specs.grammars.Grammar.{Grammar, body_of}
use Rattle.lrspec.specs.grammars.Trees.{Forest, Leaf, Node, Bare, And, joined, size, first_trees, trees_behind}
use Rattle.lrspec.specs.tables.Table as table
use Rattle.lrspec.specs.tables.Table.{Table, Action, action_of}
use Rattle.lrspec.specs.tables.Machine.{Config, Outcome, Goes, top, next_token, step, start_config}

-- the last trees, one for each symbol of the body, under the production
abbrev pub under : Grammar → ℕ → Forest → Forest
under g p ts =
    let kept = size ts - length (body_of g p) in
    joined (first_trees kept ts) (And (Node p (trees_behind kept ts)) Bare)

-- the trees behind what a cell has the machine do, where `t` is the next token
abbrev pub grown : Grammar → Action → ℕ → Forest → Forest
grown g (table.Action.Shift u) t ts = joined ts (And (Leaf t) Bare)
grown g (table.Action.Reduce p) t ts = under g p ts
grown g table.Action.Accept t ts = ts
grown g table.Action.Error t ts = ts

-- the trees behind one step
abbrev pub forest_behind : Grammar → Table → Config → Forest → Forest
forest_behind g b c ts =
    let t = next_token g c.left in grown g (action_of b (top c.stack) t) t ts

-- the trees where the step goes on, as told, and else those before it
abbrev pub grows : (Config → Forest) → Outcome → Forest → Forest
grows go (Goes d) ts = go d
grows go _ ts = ts

-- the trees after at most `n` steps
abbrev pub forest_after : Grammar → Table → ℕ → Config → Forest → Forest
forest_after g b zero c ts = ts
forest_after g b (suc n) c ts =
    grows (λ d. forest_after g b n d (forest_behind g b c ts)) (step g b c) ts

-- the trees that a run of at most `n` steps puts together
abbrev pub forest_of_run : Grammar → Table → ℕ → List ℕ → Forest
forest_of_run g b n text = forest_after g b n (start_config b text) Bare
