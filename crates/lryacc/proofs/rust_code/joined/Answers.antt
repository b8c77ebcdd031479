use Rattle.std.proofs.Common.{subst, sym, ◌∙◌}
use Rattle.lryacc.specs.declared.rust_code.Before.TheVariants as before
use Rattle.lryacc.specs.declared.rust_code.Half.TheVariants as half
use Rattle.lryacc.specs.declared.rust_code.Piece.TheVariants as piece
use Rattle.lryacc.specs.declared.rust_code.Within.TheVariants as within
use Rattle.lryacc.specs.RustCodeRead.{LeadsOn}
use Rattle.lryacc.proofs.RustCodeByBytes.{prefix-on, prefix-raw, slash-block, word-on}
use Rattle.lryacc.proofs.rust_code.joined.Goals as goal

pub returns-in-Slash-2-clause-some : goal.returns-in-Slash-2-clause-some
returns-in-Slash-2-clause-some c =
    subst (λ kind. LeadsOn c.args.byte (within.Code kind) (within.Piece (piece.Block 1 half.Nothing))) (sym c.in-Slash.is)
    (slash-block c.args.byte c.if-byte-eq42.true)

pub returns-in-Word-clause-some : goal.returns-in-Word-clause-some
returns-in-Word-clause-some c =
    subst (λ kind. LeadsOn c.args.byte (within.Code kind) (within.Code before.Word)) (sym c.in-Word.is)
    (word-on c.args.byte (sym c.is_word_byte-is_word.ensures ∙ c.if-is_word.true))

pub returns-in-Prefix-clause-some : goal.returns-in-Prefix-clause-some
returns-in-Prefix-clause-some c =
    subst (λ kind. LeadsOn c.args.byte (within.Code kind) (within.Code (before.Raw 0))) (sym c.in-Prefix.is)
    (prefix-raw c.args.byte c.if-byte-eq114.true)

pub returns-in-Prefix-2-clause-some : goal.returns-in-Prefix-2-clause-some
returns-in-Prefix-2-clause-some c =
    subst (λ kind. LeadsOn c.args.byte (within.Code kind) (within.Code before.Word)) (sym c.in-Prefix.is)
    (prefix-on c.args.byte c.if-byte-eq114.false (sym c.is_word_byte-is_word.ensures ∙ c.if-is_word-2.true))
