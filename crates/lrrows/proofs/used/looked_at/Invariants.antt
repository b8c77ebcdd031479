-- the lookaheads of the complete items so far are joined
use Rattle.std.proofs.Common.{◌≡◌, ℕ, length, map, drop, option_map}
use Rattle.std.specs.Prelude.{◌||◌, is_some}
use Rattle.lrspec.specs.grammars.Grammar.{token_count}
use Rattle.lrspec.specs.tables.Table.{bit_or_none}
use Rattle.lrgrammar.specs.Bits.{bit}
use Rattle.lrrows.specs.StateRows.{first_at}
use Rattle.lrrows.proofs.used.looked_at.Given as goal

abbrev pub invariant-loop-ctx : goal.invariant-loop-ctx
invariant-loop-ctx g l =
    let number = g.T.IndexStorage.number in
    let shown = map (λ c. (number c.0.0, c.1.now)) in
    record {
      bits : length l.looked ≡ token_count l.grm;
      each :
          (t : ℕ) → (bit l.looked t || is_some (first_at (shown (drop l.ctx-index l.completes)) t))
          ≡ (bit_or_none (option_map (λ ctx. ctx.now) l.fn.accepted) t || is_some (first_at (shown l.completes) t));
    }
