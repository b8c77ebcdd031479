-- the table of the smallest grammar, which recognises it, and a run
use Rattle.std.proofs.Common.{◌≡◌, ℕ, zero, suc, ◌<◌, [], ◌∷◌, length, None, Some, refl, arith}
use Rattle.std.proofs.lemmas.List.Elements.{All-from_recursion}
use Rattle.lrspec.specs.grammars.Grammar.{Rule, body_of}
use Rattle.lrspec.specs.merging.Graph.{edge}
use Rattle.lrspec.specs.grammars.Candidates.{IsUncontested}
use Rattle.lrspec.specs.tables.Table as table
use Rattle.lrspec.specs.tables.Table.{Table, action_of, goto_of, cell_of, AcceptsAndReduces, IsGrid, IsTableOf}
use Rattle.lrspec.specs.tables.Machine.{Accepted, run}
use Rattle.lrspec.specs.tables.LrTables.{HasNoPrecedences, Recognises}
use Rattle.lrspec.specs.examples.ExampleGrammars.{smallest}
use Rattle.lrspec.proofs.tables.ExactWithoutPrecedences.{tables_exact_without_precedences, recognises_without_precedences}
use Rattle.lrspec.proofs.examples.SmallestItemSets.{smallest_grammar, one_looks}
use Rattle.lrspec.proofs.examples.SmallestGraph.{smallest_graph, smallest_graph_of, smallest_shared}

-- the table of the smallest grammar
abbrev pub smallest_table : Table
smallest_table = record {
  start = 0;
  actions = (table.Action.Reduce 0 ∷ []) ∷ (table.Action.Accept ∷ []) ∷ [];
  gotos = (None ∷ Some 1 ∷ []) ∷ (None ∷ None ∷ []) ∷ [];
  reduce_reduce = [];
  shift_reduce = [];
}

no_contest : (s p : ℕ) → AcceptsAndReduces smallest smallest_graph s p → ⊥
no_contest zero p k = k.accepts
no_contest (suc zero) p k = k.differ ((one_looks 1 1 p (length (body_of smallest p)) 0).0 k.reduces).0
no_contest (suc (suc s)) p k = let l = k.below in omega arith

cells : (s t : ℕ) → s < length smallest_graph → t < 1 → action_of smallest_table s t ≡ cell_of smallest smallest_graph s t
cells zero zero l k = refl
cells (suc zero) zero l k = refl
cells (suc (suc s)) t l k = absurd (omega arith)
cells s (suc t) l k = absurd (omega arith)

gotos : (s r : ℕ) → s < length smallest_graph → r < 2 → goto_of smallest_table s r ≡ edge smallest_graph s (Rule r)
gotos zero zero l k = refl
gotos zero (suc zero) l k = refl
gotos (suc zero) zero l k = refl
gotos (suc zero) (suc zero) l k = refl
gotos (suc (suc s)) r l k = absurd (omega arith)
gotos s (suc (suc r)) l k = absurd (omega arith)

-- it has two rows, in each of which one cell and two gotos stand
action_grid : IsGrid 2 1 smallest_table.actions
action_grid = record { rows = refl; places = All-from_recursion (λ row. length row ≡ 1) smallest_table.actions (refl, (refl, tt)) }

goto_grid : IsGrid 2 2 smallest_table.gotos
goto_grid = record { rows = refl; places = All-from_recursion (λ row. length row ≡ 2) smallest_table.gotos (refl, (refl, tt)) }

-- the table is that of the graph
pub smallest_table_of : IsTableOf smallest smallest_graph smallest_table
smallest_table_of = record { no_contest = no_contest; start = refl; action_grid = action_grid; goto_grid = goto_grid; cells = cells; gotos = gotos; reduce_reduce = refl; shift_reduce = refl }

-- on the empty text the machine accepts in two steps, of which the first reduces by `S: ;`
pub smallest_accepts : run smallest smallest_table 2 [] ≡ record { verdict = Accepted; steps = 2; reductions = 0 ∷ [] }
smallest_accepts = refl

smallest_plain : HasNoPrecedences smallest
smallest_plain t = refl

-- so the grammar is uncontested
pub smallest_uncontested : IsUncontested smallest
smallest_uncontested =
    (tables_exact_without_precedences smallest smallest_graph smallest_grammar smallest_graph_of smallest_plain smallest_shared smallest_table smallest_table_of).0 (refl, refl)

-- and the table recognises it
pub smallest_recognised : Recognises smallest smallest_table
smallest_recognised = recognises_without_precedences smallest smallest_graph smallest_grammar smallest_graph_of smallest_plain smallest_table smallest_table_of (refl, refl)
