-- the merged graph is the grammar's, and invents a conflict: so a graph of the grammar need not be shared
use Rattle.std.proofs.Common.{◌≡◌, ℕ, ◌<◌, List, [], ◌∷◌, ◌++◌, Some, refl, arith}
use Rattle.lrspec.specs.grammars.Grammar.{Symbol, Rule, Token}
use Rattle.lrspec.specs.grammars.Candidates as candidate
use Rattle.lrspec.specs.merging.Graph as graph
use Rattle.lrspec.specs.merging.Graph.{core_of, closed_of, edge, Leads, IsGraphOf, AreShared, InventsNoConflict}
use Rattle.lrspec.specs.examples.ExampleGrammars.{lr_not_lalr}
use Rattle.lrspec.proofs.tables.ConflictsAreContested.{invents_no_conflict}
use Rattle.lrspec.proofs.examples.ItemsAndTrees.{lr_not_lalr_grammar}
use Rattle.lrspec.proofs.examples.ContestedTokens.{lr_not_lalr_uncontested}
use Rattle.lrspec.proofs.examples.GraphsByComputing.{graph_from_test}
use Rattle.lrspec.proofs.examples.MergedGraph.{merged_graph, merged_states, merged_start}
use Rattle.lrspec.proofs.examples.MergedRoots.{each_below, merged_rooted}

-- some list leads to the state
abbrev IsLedTo : ℕ → Type 0
IsLedTo s = (w : List Symbol) × Leads merged_graph w s

led : (s u : ℕ) (x : Symbol) → edge merged_graph s x ≡ Some u → IsLedTo s → IsLedTo u
led s u x e (w, l) = (w ++ x ∷ [], graph.Leads.follow x l e)

led_to_start : IsLedTo 0
led_to_start = ([], graph.Leads.start)

led_to_a : IsLedTo 2
led_to_a = led 0 2 (Token 0) refl led_to_start

led_to_b : IsLedTo 3
led_to_b = led 0 3 (Token 2) refl led_to_start

led_to_a_a : IsLedTo 4
led_to_a_a = led 2 4 (Rule 2) refl led_to_a

led_to_a_b : IsLedTo 5
led_to_a_b = led 2 5 (Rule 3) refl led_to_a

led_to_b_b : IsLedTo 7
led_to_b_b = led 3 7 (Rule 3) refl led_to_b

led_to_b_a : IsLedTo 8
led_to_b_a = led 3 8 (Rule 2) refl led_to_b

led_to_s : IsLedTo 1
led_to_s = led 0 1 (Rule 1) refl led_to_start

led_to_c : IsLedTo 6
led_to_c = led 2 6 (Token 4) refl led_to_a

first : IsLedTo 9
first = led 4 9 (Token 1) refl led_to_a_a

third : IsLedTo 10
third = led 5 10 (Token 3) refl led_to_a_b

second : IsLedTo 11
second = led 7 11 (Token 1) refl led_to_b_b

fourth : IsLedTo 12
fourth = led 8 12 (Token 3) refl led_to_b_a

merged_lists : (s : ℕ) → s < 13 → IsLedTo s
merged_lists =
    each_below IsLedTo 13
    (led_to_start, (led_to_s, (led_to_a, (led_to_b, (led_to_a_a, (led_to_a_b, (led_to_c, (led_to_b_b, (led_to_b_a, (first, (third, (second, (fourth, tt)))))))))))))

-- the merged graph is the grammar's
pub merged_graph_of : IsGraphOf lr_not_lalr merged_graph
merged_graph_of =
    graph_from_test lr_not_lalr merged_graph merged_states merged_rooted lr_not_lalr_grammar (omega arith) merged_start merged_lists

-- but merging invented a conflict: in the merged state both complete items look at `d`, and after no list do both look at
-- one token
pub merging_invented_a_conflict : InventsNoConflict lr_not_lalr merged_graph → ⊥
merging_invented_a_conflict none =
    let (w, u, core, a, b) = none 6 4 1 5 1 1 (omega arith) (λ e f. omega arith) refl refl in
    lr_not_lalr_uncontested w u (record {
      one = candidate.Candidate.Reduce 4;
      other = candidate.Candidate.Reduce 5;
      differ = λ e. cc;
      is_one = candidate.IsCandidate.reduce (λ e. omega (arith, e)) a;
      is_other = candidate.IsCandidate.reduce (λ e. omega (arith, e)) b;
    })

-- so its cores are not shared
pub merged_is_not_shared : AreShared lr_not_lalr merged_graph → ⊥
merged_is_not_shared shared =
    merging_invented_a_conflict (invents_no_conflict lr_not_lalr merged_graph merged_graph_of shared)
