use Rattle.std.proofs.Common.{◌≡◌, ◌+◌, false, subst, sym, ◌∙◌, refl, rules, arith}
use Rattle.lryacc.specs.Code.{is_single}
use Rattle.lryacc.specs.Code.AreInQuotation.{nothing}
use Rattle.lryacc.specs.Code.IsCode.{closes, opens}
use Rattle.lryacc.specs.CodeRead.{IsCodeUpTo}
use Rattle.lryacc.proofs.CodeByBytes.{brace-ends, with-closed, with-opened}
use Rattle.lryacc.proofs.code.CodeReader.behind_byte.Goals as goal

pub returns-in-123 : goal.returns-in-123
returns-in-123 c = λ text from inside here up.
    subst (IsCodeUpTo c.args.ending text from (c.args.at + 1)) (sym c.with_opened.ensures)
    (with-opened c.args.ending text from c.args.at c.args.self c.requires up.opened up.closed
    (opens up.is (here ∙ c.in-123.is)))

pub returns-in-125 : goal.returns-in-125
returns-in-125 c = λ text from inside here up.
    let ends = c.may_end.ensures.ends c.if-may_end.true in
    brace-ends c.args.ending text from c.args.at c.args.self.opened c.args.self.closed ends.0 up.is ends.1
    (here ∙ c.in-125.is)

pub returns-in-125-2 : goal.returns-in-125-2
returns-in-125-2 c = λ text from inside here up.
    subst (IsCodeUpTo c.args.ending text from (c.args.at + 1)) (sym c.with_closed.ensures)
    (with-closed c.args.ending text from c.args.at c.args.self c.requires up.opened up.closed
    (closes up.is (here ∙ c.in-125.is) (c.may_end.ensures.goes_on c.if-may_end.false)))

pub returns-in-39 : goal.returns-in-39
returns-in-39 c = λ text from inside here up.
    subst (IsCodeUpTo c.args.ending text from (c.args.at + 1)) (sym c.with.ensures)
    (record {
      is = (up.is, record { one = c.in-39.is; is = here }, nothing);
      opened = omega (arith, up.opened);
      closed = omega (arith, up.closed);
    })

pub returns-in_default : goal.returns-in_default
returns-in_default c = λ text from inside here up.
    let single : is_single c.args.byte ≡ false = search rules in
    subst (IsCodeUpTo c.args.ending text from (c.args.at + 1)) (sym c.with-in_default.ensures)
    (record {
      is = record { last = c.args.at; at_is = refl; code = up.is; first_is = here; single = single };
      opened = omega (arith, up.opened);
      closed = omega (arith, up.closed);
    })
