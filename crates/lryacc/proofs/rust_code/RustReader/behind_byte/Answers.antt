use Rattle.std.proofs.Common.{◌≢◌, ◌+◌, subst, sym, ◌∙◌, rules, arith}
use Rattle.lryacc.specs.declared.rust_code.Before.TheVariants as before
use Rattle.lryacc.specs.declared.rust_code.Within.TheVariants as within
use Rattle.lryacc.specs.RustCode.AreInString.{nothing}
use Rattle.lryacc.specs.RustCodeRead.{IsRustCodeUpTo}
use Rattle.lryacc.proofs.RustCodeByBytes.{begun, brace-closes, brace-opens, goes_on-with}
use Rattle.lryacc.proofs.rust_code.RustReader.behind_byte.Goals as goal

pub returns-in-34 : goal.returns-in-34
returns-in-34 c = λ text from is up.
    subst (IsRustCodeUpTo text from (c.args.at + 1)) (sym c.with.ensures)
    (record { is = (c.args.at, up.is, is ∙ c.in-34.is, nothing); depth = omega (arith, up.depth) })

pub returns-in-123 : goal.returns-in-123
returns-in-123 c = λ text from is up.
    subst (IsRustCodeUpTo text from (c.args.at + 1)) (sym c.with_opened.ensures)
    (brace-opens text from c.args.at c.args.self c.requires (is ∙ c.in-123.is) up)

pub returns-in-125 : goal.returns-in-125
returns-in-125 c = λ text from is up.
    let closed = c.with_closed.ensures in
    brace-closes text from c.args.at c.args.self c.with_closed.result (is ∙ c.in-125.is) up closed.none closed.within
    closed.depth

pub returns-in_default : goal.returns-in_default
returns-in_default c = λ text from is up.
    let no_text : c.args.byte ≢ 34 = search rules in
    let no_quote : c.args.byte ≢ 39 = search rules in
    let no_opening : c.args.byte ≢ 123 = search rules in
    let no_closing : c.args.byte ≢ 125 = search rules in
    let leads = begun c.args.byte c.begun.result c.begun.ensures no_text no_quote no_opening no_closing in
    subst (IsRustCodeUpTo text from (c.args.at + 1)) (sym c.with-in_default.ensures)
    (goes_on-with text from c.args.at c.args.byte c.args.at c.args.self (within.Code before.Nothing)
    (within.Code c.begun.result) c.requires is leads up)
