use Rattle.std.proofs.Common.{◌≡◌, ◌-◌, ◌+◌, ◌^◌, ◌<◌, w64, arith}
use Rattle.std.proofs.lemmas.Nat.Bits.{bit_at-trailing_ones}
use Rattle.lrsparse.proofs.MetColumns.{none_below, met_within, all_set}
use Rattle.lrsparse.proofs.sparsevec.owned.least_displacement.Goals as goal

pub returns-then-met-lt18446744073709551615-clause-fits : goal.returns-then-met-lt18446744073709551615-clause-fits
returns-then-met-lt18446744073709551615-clause-fits c =
    let below : c.met_from-met.result + 1 < 2 ^ 64 = omega arith in
    let first = bit_at-trailing_ones w64 c.met_from-met.result below in
    rw (c.trailing_ones.ensures) (c.met_from-met.ensures.unmet _ first.0 first.1)

pub returns-then-met-lt18446744073709551615-clause-least : goal.returns-then-met-lt18446744073709551615-clause-least
returns-then-met-lt18446744073709551615-clause-least c =
    let below : c.met_from-met.result + 1 < 2 ^ 64 = omega arith in
    let first = bit_at-trailing_ones w64 c.met_from-met.result below in
    rw (c.trailing_ones.ensures)
    (none_below c.args.words.now c.args.columns.now c.loop-start.displacement c.met_from-met.result c.met_from-met.ensures.met c.loop-start.invariant.none _ (omega (arith, first.0)) first.2)

pub loop-start-preserved : goal.loop-start-preserved
loop-start-preserved c =
    let full : c.met_from-met.result ≡ 2 ^ 64 - 1 = omega arith in record {
      within = omega (arith, met_within c.args.words.now c.args.columns.now c.loop-start.displacement c.met_from-met.result c.met_from-met.ensures.met c.loop-start.invariant.none (all_set c.met_from-met.result 0 (omega arith) full));
      none = none_below c.args.words.now c.args.columns.now c.loop-start.displacement c.met_from-met.result c.met_from-met.ensures.met c.loop-start.invariant.none 64 (omega arith) (λ i h. all_set c.met_from-met.result i h full);
    }
