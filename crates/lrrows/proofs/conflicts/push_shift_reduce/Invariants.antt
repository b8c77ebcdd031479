-- the entries for the edges so far are added, and those for the edges left are to come
use Rattle.std.proofs.Common.{◌≡◌, ◌++◌, ◌<◌, Some}
use Rattle.std.specs.List.{AllByRecursion, filter_map}
use Rattle.lrspec.specs.grammars.Grammar.{token_count}
use Rattle.lrspec.specs.merging.Graph as math
use Rattle.lrgraphs.specs.GraphOf.{edges_of}
use Rattle.lrrows.specs.StoredLists.{stored_shift_reduces}
use Rattle.lrrows.proofs.TokenEdges.{token_edges, entry_of}
use Rattle.lrrows.proofs.conflicts.push_shift_reduce.Given as goal

abbrev pub invariant-loop-symbol : goal.invariant-loop-symbol
invariant-loop-symbol g l =
    let number = g.T.IndexStorage.number in
    let s = number l.stidx.0 in
    let left = token_edges (edges_of number (λ u. number u.0) l.symbol-iterator) in
    record {
      added :
          stored_shift_reduces number l.conflicts.items ++ filter_map (λ e. entry_of l.grm l.sg s e.0 (Some e.1)) left
          ≡ stored_shift_reduces number l.fn.conflicts.items ++ filter_map (λ e. entry_of l.grm l.sg s e.0 (Some e.1)) (token_edges (math.edges_of l.sg s));
      within : AllByRecursion (λ e. e.0 < token_count l.grm) left;
    }
