use Rattle.lryacc.proofs.CodeByBytes.{backslash-begins, quote-closes, quoted-byte}
use Rattle.lryacc.proofs.code.behind_plain.Goals as goal

pub returns-then-byte-quote : goal.returns-then-byte-quote
returns-then-byte-quote c = quote-closes c.args.quote c.args.opened c.args.byte c.if-byte-quote.true

pub returns-then-byte-eq92 : goal.returns-then-byte-eq92
returns-then-byte-eq92 c = backslash-begins c.args.quote c.args.opened c.args.byte c.if-byte-eq92.true

pub returns : goal.returns
returns c =
    quoted-byte c.args.quote c.args.opened c.args.byte c.if-byte-quote.false c.if-byte-eq10.false c.if-byte-eq92.false
