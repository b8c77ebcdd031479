use Rattle.std.proofs.Common.{sym, ◌∙◌}
use Rattle.lrbits.proofs.WordBits.{set_same, set_other, clear_same, clear_other}
use Rattle.lrbits.proofs.vob.with_bit.Goals as goal

pub returns-then-value-clause-written : goal.returns-then-value-clause-written
returns-then-value-clause-written c = set_same c.args.word c.args.place c.requires ∙ sym c.if-value.true

pub returns-then-value-clause-kept : goal.returns-then-value-clause-kept
returns-then-value-clause-kept c = λ k h n. set_other c.args.word c.args.place k c.requires n

pub returns-else-value-clause-written : goal.returns-else-value-clause-written
returns-else-value-clause-written c = clear_same c.args.word c.args.place c.requires ∙ sym c.if-value.false

pub returns-else-value-clause-kept : goal.returns-else-value-clause-kept
returns-else-value-clause-kept c = λ k h n. clear_other c.args.word c.args.place k c.requires h n
