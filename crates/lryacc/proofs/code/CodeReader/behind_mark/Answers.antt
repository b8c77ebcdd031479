use Rattle.std.proofs.Common.{◌+◌, slice_index, subst, sym, arith}
use Rattle.lryacc.specs.declared.code.Mark.TheVariants as mark
use Rattle.lryacc.specs.CodeRead.{IsCodeUpTo, IsMark}
use Rattle.lryacc.proofs.CodeByBytes.{mark-closes, mark-ends, mark-opens, mark-shift, with-closed, with-opened}
use Rattle.lryacc.proofs.code.CodeReader.behind_mark.Goals as goal

pub returns-in-Shift : goal.returns-in-Shift
returns-in-Shift c = λ ending text from first inside bytes up.
    let reader = c.args.self in
    let at = c.args.at in
    let byte = slice_index text at in
    let is : IsMark ending mark.Shift first byte =
    subst (λ kind. IsMark ending kind first byte) c.in-Shift.is bytes in
    subst (IsCodeUpTo ending text from (at + 1)) (sym c.with-in-Shift.ensures)
    (record {
      is = mark-shift ending text from at first reader.opened reader.closed up.is is.0 is.1;
      opened = omega (arith, up.opened);
      closed = omega (arith, up.closed);
    })

pub returns-in-Opens : goal.returns-in-Opens
returns-in-Opens c = λ ending text from first inside bytes up.
    let reader = c.args.self in
    let at = c.args.at in
    let byte = slice_index text at in
    let is : IsMark ending mark.Opens first byte =
    subst (λ kind. IsMark ending kind first byte) c.in-Opens.is bytes in
    subst (IsCodeUpTo ending text from (at + 1)) (sym c.with_opened.ensures)
    (with-opened ending text from at reader c.requires up.opened up.closed
    (mark-opens ending text from at first reader.opened reader.closed up.is is.0 is.1))

pub returns-in-Closes : goal.returns-in-Closes
returns-in-Closes c = λ ending text from first inside bytes up.
    let reader = c.args.self in
    let at = c.args.at in
    let byte = slice_index text at in
    let is : IsMark ending mark.Closes first byte =
    subst (λ kind. IsMark ending kind first byte) c.in-Closes.is bytes in
    subst (IsCodeUpTo ending text from (at + 1)) (sym c.with_closed.ensures)
    (with-closed ending text from at reader c.requires up.opened up.closed
    (mark-closes ending text from at first reader.opened reader.closed up.is is.0 is.1))

pub returns-in-Ends : goal.returns-in-Ends
returns-in-Ends c = λ ending text from first inside bytes up.
    let reader = c.args.self in
    let at = c.args.at in
    let byte = slice_index text at in
    let is : IsMark ending mark.Ends first byte =
    subst (λ kind. IsMark ending kind first byte) c.in-Ends.is bytes in
    mark-ends ending text from at first reader.opened reader.closed is.0 up.is is.1 is.2
