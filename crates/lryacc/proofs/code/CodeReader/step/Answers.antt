use Rattle.std.proofs.Common.{◌+◌, slice_index, refl, subst, sym}
use Rattle.lryacc.specs.declared.code.Within.TheVariants as within
use Rattle.lryacc.specs.CodeRead.{IsCodeUpTo, IsWithin}
use Rattle.lryacc.proofs.CodeByBytes.{goes-on}
use Rattle.lryacc.proofs.code.CodeReader.step.Goals as goal

pub returns-in-Code : goal.returns-in-Code
returns-in-Code c = λ from up.
    let text = c.args.text.now in
    let reader = c.args.self in
    let is =
    subst (IsWithin c.args.ending text from c.args.at reader.opened reader.closed) c.in-Code.is up.is in
    c.behind_code.ensures text from c.requires refl (record { is = is; opened = up.opened; closed = up.closed })

pub returns-in-Some : goal.returns-in-Some
returns-in-Some c = λ from up.
    let text = c.args.text.now in
    let at = c.args.at in
    subst (IsCodeUpTo c.args.ending text from (at + 1)) (sym c.with.ensures)
    (goes-on c.args.ending text from at (slice_index text at) c.args.self
    (within.Quotes c.in-Quotes.quote c.in-Quotes.opened c.in-Quotes.escape)
    c.in-Some.within c.requires refl c.in-Quotes.is c.in-Some.ensures up)

pub returns-in-Line : goal.returns-in-Line
returns-in-Line c = λ from up.
    let text = c.args.text.now in
    let at = c.args.at in
    subst (IsCodeUpTo c.args.ending text from (at + 1)) (sym c.with-in-Line.ensures)
    (goes-on c.args.ending text from at (slice_index text at) c.args.self (within.Line c.in-Line.escape)
    c.behind_line.result c.requires refl c.in-Line.is c.behind_line.ensures up)
