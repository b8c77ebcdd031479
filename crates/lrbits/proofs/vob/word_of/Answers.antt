use Rattle.std.proofs.Common.{◌-◌, ◌^◌, sym, ◌∙◌}
use Rattle.std.proofs.lemmas.Nat.Bits.{bit_at_ones}
use Rattle.lrbits.proofs.WordBits.{in_one, in_zero}
use Rattle.lrbits.proofs.vob.word_of.Goals as goal

pub returns-then-value : goal.returns-then-value
returns-then-value c = record { bits = λ i h. in_one (2 ^ 64 - 1) i (bit_at_ones 64 i h) ∙ sym c.if-value.true }

pub returns-else-value : goal.returns-else-value
returns-else-value c = record { bits = λ i h. in_zero i ∙ sym c.if-value.false }
