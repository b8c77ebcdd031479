use Rattle.lrspec.proofs.texts.CausesInOrder.{none_below_more, no_cause_from_none_below}
use Rattle.lrspec.specs.texts.Parts as part
use Rattle.lrtext.specs.StoredParts.{parts_of}
use Rattle.lrparts.proofs.TruthTests.{holds_if, fails_if}
use Rattle.lrparts.proofs.causes.refuse.Goals as goal

pub returns-then-is_empty-clause-refused : goal.returns-then-is_empty-clause-refused
returns-then-is_empty-clause-refused c =
    let most = c.args.most in
    let ps = parts_of c.args.parts.now in
    record {
      holds = part.Cause.empty_rule (holds_if c.in_ok-is_empty.ensures c.if-is_empty.true);
      least = c.in_ok-refuse_before_memory.ensures.free;
    }

pub returns-then-reserved_name-clause-refused : goal.returns-then-reserved_name-clause-refused
returns-then-reserved_name-clause-refused c =
    let most = c.args.most in
    let ps = parts_of c.args.parts.now in
    record {
      holds = part.Cause.reserved_name (holds_if c.reserved_name.ensures c.if-reserved_name.true);
      least = (none_below_more most ps 6 c.in_ok-refuse_before_memory.ensures.free (fails_if c.in_ok-is_empty.ensures c.if-is_empty.false));
    }

pub returns-then-is_double-clause-refused : goal.returns-then-is_double-clause-refused
returns-then-is_double-clause-refused c =
    let most = c.args.most in
    let ps = parts_of c.args.parts.now in
    record {
      holds = part.Cause.duplicate_name (holds_if c.in_ok-is_double.ensures c.if-is_double.true);
      least = (none_below_more most ps 7 (none_below_more most ps 6 c.in_ok-refuse_before_memory.ensures.free (fails_if c.in_ok-is_empty.ensures c.if-is_empty.false)) (fails_if c.reserved_name.ensures c.if-reserved_name.false));
    }

pub returns-then-is_mixed-clause-refused : goal.returns-then-is_mixed-clause-refused
returns-then-is_mixed-clause-refused c =
    let most = c.args.most in
    let ps = parts_of c.args.parts.now in
    record {
      holds = part.Cause.mixed_level (holds_if c.in_ok-is_mixed.ensures c.if-is_mixed.true);
      least = (none_below_more most ps 8 (none_below_more most ps 7 (none_below_more most ps 6 c.in_ok-refuse_before_memory.ensures.free (fails_if c.in_ok-is_empty.ensures c.if-is_empty.false)) (fails_if c.reserved_name.ensures c.if-reserved_name.false)) (fails_if c.in_ok-is_double.ensures c.if-is_double.false));
    }

pub returns-then-no_start-clause-refused : goal.returns-then-no_start-clause-refused
returns-then-no_start-clause-refused c =
    let most = c.args.most in
    let ps = parts_of c.args.parts.now in
    record {
      holds = part.Cause.no_start (holds_if c.no_start.ensures c.if-no_start.true);
      least = (none_below_more most ps 9 (none_below_more most ps 8 (none_below_more most ps 7 (none_below_more most ps 6 c.in_ok-refuse_before_memory.ensures.free (fails_if c.in_ok-is_empty.ensures c.if-is_empty.false)) (fails_if c.reserved_name.ensures c.if-reserved_name.false)) (fails_if c.in_ok-is_double.ensures c.if-is_double.false)) (fails_if c.in_ok-is_mixed.ensures c.if-is_mixed.false));
    }

pub returns-clause-free : goal.returns-clause-free
returns-clause-free c =
    let most = c.args.most in
    let ps = parts_of c.args.parts.now in
    no_cause_from_none_below most ps (none_below_more most ps 10 (none_below_more most ps 9 (none_below_more most ps 8 (none_below_more most ps 7 (none_below_more most ps 6 c.in_ok-refuse_before_memory.ensures.free (fails_if c.in_ok-is_empty.ensures c.if-is_empty.false)) (fails_if c.reserved_name.ensures c.if-reserved_name.false)) (fails_if c.in_ok-is_double.ensures c.if-is_double.false)) (fails_if c.in_ok-is_mixed.ensures c.if-is_mixed.false)) (fails_if c.no_start.ensures c.if-no_start.false))

-- none of the first five causes holds here, whatever the answer is
pub returns-then-is_empty-clause-memory : goal.returns-then-is_empty-clause-memory
returns-then-is_empty-clause-memory c e = c.in_ok-refuse_before_memory.ensures.free

pub returns-then-reserved_name-clause-memory : goal.returns-then-reserved_name-clause-memory
returns-then-reserved_name-clause-memory c e = c.in_ok-refuse_before_memory.ensures.free

pub returns-then-is_double-clause-memory : goal.returns-then-is_double-clause-memory
returns-then-is_double-clause-memory c e = c.in_ok-refuse_before_memory.ensures.free

pub returns-then-is_mixed-clause-memory : goal.returns-then-is_mixed-clause-memory
returns-then-is_mixed-clause-memory c e = c.in_ok-refuse_before_memory.ensures.free

pub returns-then-no_start-clause-memory : goal.returns-then-no_start-clause-memory
returns-then-no_start-clause-memory c e = c.in_ok-refuse_before_memory.ensures.free

pub returns-clause-memory : goal.returns-clause-memory
returns-clause-memory c e = c.in_ok-refuse_before_memory.ensures.free
