use Rattle.std.proofs.Common.{IfSome, subst, sym, ◌∙◌}
use Rattle.lryacc.specs.declared.code.Escape.TheVariants as escape
use Rattle.lryacc.specs.declared.code.Within.TheVariants as within
use Rattle.lryacc.specs.CodeRead.{LeadsOn}
use Rattle.lryacc.proofs.CodeByBytes.{backslash-joins, backslash-takes, blank-begins, blank-more, blanks-stand}
use Rattle.lryacc.proofs.code.behind_quoted.Goals as goal

pub returns-in-Begun : goal.returns-in-Begun
returns-in-Begun c =
    subst
    (λ kind. LeadsOn c.args.byte (within.Quotes c.args.quote c.args.opened kind)
    (within.Quotes c.args.quote c.args.opened escape.Blanks)) (sym c.in-Begun.is)
    (blank-begins c.args.quote c.args.opened c.args.byte (sym c.is_line_blank-is_blank.ensures ∙ c.if-is_blank.true))

pub returns-in-Begun-2 : goal.returns-in-Begun-2
returns-in-Begun-2 c =
    subst
    (λ kind. LeadsOn c.args.byte (within.Quotes c.args.quote c.args.opened kind)
    (within.Quotes c.args.quote c.args.opened escape.None)) (sym c.in-Begun.is)
    (backslash-takes c.args.quote c.args.opened c.args.byte)

pub returns-in-Blanks : goal.returns-in-Blanks
returns-in-Blanks c =
    subst
    (λ kind. LeadsOn c.args.byte (within.Quotes c.args.quote c.args.opened kind)
    (within.Quotes c.args.quote c.args.opened escape.Blanks)) (sym c.in-Blanks.is)
    (blank-more c.args.quote c.args.opened c.args.byte (sym c.is_line_blank-is_blank.ensures ∙ c.if-is_blank-2.true))

pub returns-in-Blanks-2 : goal.returns-in-Blanks-2
returns-in-Blanks-2 c =
    subst
    (λ kind. LeadsOn c.args.byte (within.Quotes c.args.quote c.args.opened kind)
    (within.Quotes c.args.quote c.args.opened escape.None)) (sym c.in-Blanks.is)
    (backslash-joins c.args.quote c.args.opened c.args.byte c.if-byte-eq10.true)

pub returns-in-Blanks-3 : goal.returns-in-Blanks-3
returns-in-Blanks-3 c =
    let stand =
    blanks-stand c.args.quote c.args.opened c.args.byte c.behind_plain-in-Blanks-3.result
    c.behind_plain-in-Blanks-3.ensures in
    subst
    (λ kind. IfSome c.behind_plain-in-Blanks-3.result (LeadsOn c.args.byte (within.Quotes c.args.quote c.args.opened kind)))
    (sym c.in-Blanks.is) stand
