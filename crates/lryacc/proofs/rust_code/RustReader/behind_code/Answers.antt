use Rattle.std.proofs.Common.{◌+◌, subst, sym}
use Rattle.lryacc.specs.declared.rust_code.Within.TheVariants as within
use Rattle.lryacc.specs.RustCodeRead.{IsRustCodeUpTo}
use Rattle.lryacc.proofs.RustCodeByBytes.{byte-taken, goes_on-with}
use Rattle.lryacc.proofs.rust_code.RustReader.behind_code.Goals as goal

pub returns-in-Some : goal.returns-in-Some
returns-in-Some c = λ text from is up.
    subst (IsRustCodeUpTo text from (c.args.at + 1)) (sym c.with.ensures)
    (goes_on-with text from c.args.at c.args.byte c.opening.result c.args.self (within.Code c.args.before)
    c.in-Some.within c.requires is c.in-Some.ensures.some up)

pub returns-in-None : goal.returns-in-None
returns-in-None c =
    byte-taken c.args.at c.args.byte c.args.before c.args.self c.behind_byte.result c.in-None.ensures.none
    c.behind_byte.ensures
