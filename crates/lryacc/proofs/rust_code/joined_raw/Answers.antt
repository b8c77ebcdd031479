use Rattle.std.proofs.Common.{sym, ◌∙◌}
use Rattle.lryacc.proofs.RustCodeByBytes.{raw-on}
use Rattle.lryacc.proofs.rust_code.joined_raw.Goals as goal

pub returns-then-is_word_byte-clause-some : goal.returns-then-is_word_byte-clause-some
returns-then-is_word_byte-clause-some c =
    raw-on c.args.marks c.args.byte c.if-byte-eq34.false c.if-byte-eq35.false
    (sym c.is_word_byte.ensures ∙ c.if-is_word_byte.true)
