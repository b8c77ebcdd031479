-- the tokens of the edges so far are marked
use Rattle.std.proofs.Common.{◌≡◌, ℕ, ◌<◌, Bool, length, map, option_map}
use Rattle.std.specs.Prelude.{◌||◌, is_some}
use Rattle.std.specs.List.{AllByRecursion}
use Rattle.lrspec.specs.grammars.Grammar.{Token, token_count}
use Rattle.lrspec.specs.merging.Graph.{edge, edge_at}
use Rattle.lrspec.specs.tables.Table.{bit_or_none}
use Rattle.lrgrammar.specs.Bits.{bit}
use Rattle.lrgraphs.specs.GraphOf.{edges_of}
use Rattle.lrrows.specs.StateRows.{first_at}
use Rattle.lrrows.proofs.TokenEdges.{token_edges}
use Rattle.lrrows.proofs.used.used_tokens.Given as goal

abbrev pub invariant-loop-symbol : goal.invariant-loop-symbol
invariant-loop-symbol g l =
    let number = g.T.IndexStorage.number in
    let left = edges_of number (λ u. number u.0) l.symbol-iterator in
    let looked : ℕ → Bool = λ t.
    bit_or_none (option_map (λ ctx. ctx.now) l.fn.accepted) t
    || is_some (first_at (map (λ c. (number c.0.0, c.1.now)) l.fn.completes) t) in
    record {
      bits : length l.used ≡ token_count l.grm;
      within : AllByRecursion (λ e. e.0 < token_count l.grm) (token_edges left);
      each :
          (t : ℕ) → (bit l.used t || is_some (edge_at left (Token t)))
          ≡ (looked t || is_some (edge l.sg (number l.fn.stidx.0) (Token t)));
    }
