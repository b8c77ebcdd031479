use Rattle.std.proofs.Common.{◌+◌, sym, ◌∙◌}
use Rattle.lryacc.specs.declared.code.Ending.TheVariants.{Brace}
use Rattle.lryacc.specs.declared.lexemes.LexemeKind.TheVariants.{Action}
use Rattle.lryacc.specs.Code.{EndsCode}
use Rattle.lryacc.proofs.LexemesAt.{of-kind, one-byte}
use Rattle.lryacc.proofs.lexemes.lexeme_at.Goals as goal

pub returns-in-123-clause-is : goal.returns-in-123-clause-is
returns-in-123-clause-is c =
    let text = c.args.text.now in
    of-kind text c.args.from Action c.code.result (EndsCode Brace text (c.args.from + 1)) c.code.ensures.kind
    c.code.ensures.code (λ end ends. (c.in-123.is, ends))

pub returns-in_ok-between_quotes-in-34-clause-is : goal.returns-in_ok-between_quotes-in-34-clause-is
returns-in_ok-between_quotes-in-34-clause-is c =
    let is = c.in_ok-between_quotes-in-34.ensures.is in
    (is.bytes, is.are)

pub returns-in_default-get-clause-is : goal.returns-in_default-get-clause-is
returns-in_default-get-clause-is c = one-byte c.args.text.now c.args.from 58 c.requires c.in-58.is

pub returns-in-124-clause-is : goal.returns-in-124-clause-is
returns-in-124-clause-is c = one-byte c.args.text.now c.args.from 124 c.requires c.in-124.is

pub returns-in-59-clause-is : goal.returns-in-59-clause-is
returns-in-59-clause-is c = one-byte c.args.text.now c.args.from 59 c.requires c.in-59.is

pub returns-in-61-clause-is : goal.returns-in-61-clause-is
returns-in-61-clause-is c = one-byte c.args.text.now c.args.from 61 c.requires c.in-61.is

pub returns-in_default-clause-is : goal.returns-in_default-clause-is
returns-in_default-clause-is c =
    record { begins = sym c.is_name_start.ensures ∙ c.if-is_name_start.true; rest = c.end.ensures.run }
