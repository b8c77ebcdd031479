-- the cores of the merged graph are rooted: each but the first is a goto, or the union of two
use Rattle.std.proofs.Common.{◌≡◌, ℕ, zero, suc, ◌+◌, ◌<◌, true, List, [], ◌∷◌, ◌++◌, refl, arith}
use Rattle.lrspec.specs.grammars.Grammar.{Symbol, Rule, Token, rest}
use Rattle.lrspec.specs.grammars.ItemSets.{HasItem}
use Rattle.lrspec.specs.merging.Cores.{IsRooted}
use Rattle.lrspec.specs.merging.Graph.{core_of, closed_of}
use Rattle.lrspec.specs.examples.ExampleGrammars.{lr_not_lalr}
use Rattle.lrspec.proofs.merging.RootedCores.{followed, start_rooted, goto_rooted, union_rooted}
use Rattle.lrspec.proofs.merging.StatesHoldWhatStands.{AreRooted}
use Rattle.lrspec.proofs.examples.ItemsAndTrees.{lr_not_lalr_grammar}
use Rattle.lrspec.proofs.examples.WeaklyCompatibleSets.{d_and_e, e_and_d}
use Rattle.lrspec.proofs.examples.GotosByComputing.{is_goto, goto_from_test}
use Rattle.lrspec.proofs.examples.GraphsByComputing.{states_close}
use Rattle.lrspec.proofs.examples.MergedGraph.{merged_graph, merged_states, merged_start, same_after_c, union_after_c}

-- something of each of so many numbers from `k` on
abbrev pub EachFrom : (ℕ → Type 0) → ℕ → ℕ → Type 0
EachFrom P k zero = Unit {0}
EachFrom P k (suc n) = P k × EachFrom P (suc k) n

each_from : (P : ℕ → Type 0) (k n : ℕ) → EachFrom P k n → (j s : ℕ) → s ≡ k + j → j < n → P s
each_from P k zero each j s e l = absurd (omega arith)
each_from P k (suc n) each zero s e l = let same : s ≡ k = omega arith in rw same each.0
each_from P k (suc n) each (suc j) s e l = each_from P (suc k) n each.1 j s (omega arith) (omega arith)

-- so of each number below `n`
pub each_below : (P : ℕ → Type 0) (n : ℕ) → EachFrom P 0 n → (s : ℕ) → s < n → P s
each_below P n each s l = each_from P 0 n each s s (omega arith) l

-- the core of the state is rooted
abbrev IsRootedState : ℕ → Type 0
IsRootedState s = IsRooted lr_not_lalr (core_of merged_graph s)

-- what is the goto of a rooted core's closure is rooted
next :
    (s u p d : ℕ) (x : Symbol) (y : List Symbol) → s < 13 → is_goto lr_not_lalr (closed_of merged_graph s) x (core_of merged_graph u) ≡ true
    → HasItem (closed_of merged_graph s) p d → rest lr_not_lalr p d ≡ x ∷ y → IsRootedState s → IsRootedState u
next s u p d x y l test i e (ws, root) = (
  followed ws x,
  goto_rooted lr_not_lalr_grammar root (states_close lr_not_lalr merged_graph merged_states s l)
      (goto_from_test lr_not_lalr (closed_of merged_graph s) x (core_of merged_graph u) test) (p, d, i, (y, e)),
)

at_start : IsRootedState 0
at_start = ([] ∷ [], start_rooted (core_of merged_graph 0) lr_not_lalr_grammar merged_start)

after_a : IsRootedState 2
after_a = next 0 2 0 0 (Token 0) (Rule 2 ∷ Token 1 ∷ []) (omega arith) refl refl refl at_start

after_b : IsRootedState 3
after_b = next 0 3 1 0 (Token 2) (Rule 3 ∷ Token 1 ∷ []) (omega arith) refl refl refl at_start

after_a_a : IsRootedState 4
after_a_a = next 2 4 0 1 (Rule 2) (Token 1 ∷ []) (omega arith) refl refl refl after_a

after_a_b : IsRootedState 5
after_a_b = next 2 5 2 1 (Rule 3) (Token 3 ∷ []) (omega arith) refl refl refl after_a

-- the merged core is the union of two gotos
after_c : IsRootedState 6
after_c =
    let (ws, root) = after_a in
    let (vs, other) = after_b in (
      followed ws (Token 4) ++ followed vs (Token 4),
      union_rooted
          (goto_rooted lr_not_lalr_grammar root (states_close lr_not_lalr merged_graph merged_states 2 (omega arith))
          (goto_from_test lr_not_lalr (closed_of merged_graph 2) (Token 4) d_and_e refl) (4, 0, refl, ([], refl)))
          (goto_rooted lr_not_lalr_grammar other (states_close lr_not_lalr merged_graph merged_states 3 (omega arith))
          (goto_from_test lr_not_lalr (closed_of merged_graph 3) (Token 4) e_and_d refl) (4, 0, refl, ([], refl)))
          same_after_c union_after_c,
    )

after_b_b : IsRootedState 7
after_b_b = next 3 7 1 1 (Rule 3) (Token 1 ∷ []) (omega arith) refl refl refl after_b

after_b_a : IsRootedState 8
after_b_a = next 3 8 3 1 (Rule 2) (Token 3 ∷ []) (omega arith) refl refl refl after_b

after_s : IsRootedState 1
after_s = next 0 1 6 0 (Rule 1) [] (omega arith) refl refl refl at_start

first : IsRootedState 9
first = next 4 9 0 2 (Token 1) [] (omega arith) refl refl refl after_a_a

third : IsRootedState 10
third = next 5 10 2 2 (Token 3) [] (omega arith) refl refl refl after_a_b

second : IsRootedState 11
second = next 7 11 1 2 (Token 1) [] (omega arith) refl refl refl after_b_b

fourth : IsRootedState 12
fourth = next 8 12 3 2 (Token 3) [] (omega arith) refl refl refl after_b_a

-- all cores are rooted
pub merged_rooted : AreRooted lr_not_lalr merged_graph
merged_rooted =
    each_below IsRootedState 13
    (at_start, (after_s, (after_a, (after_b, (after_a_a, (after_a_b, (after_c, (after_b_b, (after_b_a, (first, (third, (second, (fourth, tt)))))))))))))
