-- the productions of the complete items so far stand at their lookaheads
use Rattle.std.proofs.Common.{◌≡◌, length, map, drop}
use Rattle.lrspec.specs.grammars.Grammar.{token_count}
use Rattle.lrrows.specs.StateRows.{first_at}
use Rattle.lrrows.proofs.FilledPlaces.{AreFilling}
use Rattle.lrrows.proofs.completes.least_by_token.Given as goal

abbrev pub invariant-loop-pidx : goal.invariant-loop-pidx
invariant-loop-pidx g l =
    let number = g.T.IndexStorage.number in
    let shown = map (λ c. (number c.0.0, c.1.now)) in
    record {
      many : length l.least.items ≡ token_count l.grm;
      filling :
          AreFilling (λ p. number p.0) l.least.items (token_count l.grm) (first_at (shown (drop l.pidx-index l.completes)))
          (first_at (shown l.completes));
    }
