-- the targets of the edges so far stand at the places of their tokens
use Rattle.std.proofs.Common.{◌≡◌, length}
use Rattle.lrspec.specs.grammars.Grammar.{Token, token_count}
use Rattle.lrspec.specs.merging.Graph.{edge, edge_at}
use Rattle.lrgraphs.specs.GraphOf.{edges_of}
use Rattle.lrrows.proofs.FilledPlaces.{AreFilling}
use Rattle.lrrows.proofs.targets.token_targets.Given as goal

abbrev pub invariant-loop-symbol : goal.invariant-loop-symbol
invariant-loop-symbol g l =
    let number = g.T.IndexStorage.number in
    let left = edges_of number (λ u. number u.0) l.symbol-iterator in
    record {
      many : length l.targets.items ≡ token_count l.grm;
      filling :
          AreFilling (λ u. number u.0) l.targets.items (token_count l.grm) (λ t. edge_at left (Token t))
          (λ t. edge l.sg (number l.fn.stidx.0) (Token t));
    }
