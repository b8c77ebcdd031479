use Rattle.lrspec.proofs.texts.CausesInOrder.{none_below_one, none_below_2, none_below_3, none_below_4, none_below_5, none_below_6}
use Rattle.lrspec.specs.texts.Parts as part
use Rattle.lrtext.specs.StoredParts.{parts_of}
use Rattle.lrparts.proofs.TruthTests.{holds_if, fails_if}
use Rattle.lrparts.proofs.causes.refuse_before_memory.Goals as goal

pub returns-then-too_many_rules-clause-refused : goal.returns-then-too_many_rules-clause-refused
returns-then-too_many_rules-clause-refused c =
    record {
      holds = part.Cause.too_many_rules (holds_if c.too_many_rules.ensures c.if-too_many_rules.true);
      least = none_below_one c.args.most (parts_of c.args.parts.now);
    }

pub returns-then-too_many_tokens-clause-refused : goal.returns-then-too_many_tokens-clause-refused
returns-then-too_many_tokens-clause-refused c =
    record {
      holds = part.Cause.too_many_tokens (holds_if c.too_many_tokens.ensures c.if-too_many_tokens.true);
      least = none_below_2 c.args.most (parts_of c.args.parts.now) (fails_if c.too_many_rules.ensures c.if-too_many_rules.false);
    }

pub returns-then-too_many_productions-clause-refused : goal.returns-then-too_many_productions-clause-refused
returns-then-too_many_productions-clause-refused c =
    record {
      holds = part.Cause.too_many_productions (holds_if c.too_many_productions.ensures c.if-too_many_productions.true);
      least = none_below_3 c.args.most (parts_of c.args.parts.now) (fails_if c.too_many_rules.ensures c.if-too_many_rules.false) (fails_if c.too_many_tokens.ensures c.if-too_many_tokens.false);
    }

pub returns-then-body_too_long-clause-refused : goal.returns-then-body_too_long-clause-refused
returns-then-body_too_long-clause-refused c =
    record {
      holds = part.Cause.body_too_long (holds_if c.body_too_long.ensures c.if-body_too_long.true);
      least = none_below_4 c.args.most (parts_of c.args.parts.now) (fails_if c.too_many_rules.ensures c.if-too_many_rules.false) (fails_if c.too_many_tokens.ensures c.if-too_many_tokens.false) (fails_if c.too_many_productions.ensures c.if-too_many_productions.false);
    }

pub returns-then-symbol_out_of_range-clause-refused : goal.returns-then-symbol_out_of_range-clause-refused
returns-then-symbol_out_of_range-clause-refused c =
    record {
      holds = part.Cause.symbol_out_of_range (holds_if c.symbol_out_of_range.ensures c.if-symbol_out_of_range.true);
      least = none_below_5 c.args.most (parts_of c.args.parts.now) (fails_if c.too_many_rules.ensures c.if-too_many_rules.false) (fails_if c.too_many_tokens.ensures c.if-too_many_tokens.false) (fails_if c.too_many_productions.ensures c.if-too_many_productions.false) (fails_if c.body_too_long.ensures c.if-body_too_long.false);
    }

pub returns-clause-free : goal.returns-clause-free
returns-clause-free c = none_below_6 c.args.most (parts_of c.args.parts.now) (fails_if c.too_many_rules.ensures c.if-too_many_rules.false) (fails_if c.too_many_tokens.ensures c.if-too_many_tokens.false) (fails_if c.too_many_productions.ensures c.if-too_many_productions.false) (fails_if c.body_too_long.ensures c.if-body_too_long.false) (fails_if c.symbol_out_of_range.ensures c.if-symbol_out_of_range.false)
