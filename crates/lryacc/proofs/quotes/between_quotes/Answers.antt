use Rattle.std.proofs.Common.{◌≡◌, ◌+◌, max, subst, arith}
use Rattle.lryacc.specs.QuotesRead.{AreBytesUpTo}
use Rattle.lryacc.proofs.BytesInQuotes.{escape-read, literal-read, none-read}
use Rattle.lryacc.proofs.quotes.between_quotes.Goals as goal
use Rattle.lryacc.proofs.quotes.between_quotes.Goals.{then-byte-eq92+in_ok-last, else-byte-eq92}

pub loop-at-init : goal.loop-at-init
loop-at-init c =
    (none-read c.args.quote c.args.text.now (c.args.from + 1) (max (c.args.from + 1) c.args.from) (omega arith), omega arith)

pub loop-at-preserved : goal.loop-at-preserved
loop-at-preserved c =
    let text = c.args.text.now in
    let quote = c.args.quote in
    let start = c.args.from + 1 in
    let at = c.loop-at.at in
    let here : max at c.loop-at.behind ≡ at = omega arith in
    let read = subst (λ at. AreBytesUpTo quote text start at c.loop-at.bytes c.loop-at.last) here c.loop-at.invariant.0 in
    let one : c.saturating_add-bytes.result ≡ c.loop-at.bytes + 1 = omega arith in
    elim c.if-byte-eq92.branch [
      | then-byte-eq92+in_ok-last w ↦
          let found = w.in_ok-last in
          let end : max (at + 1) c.if-byte-eq92.behind ≡ found.field-0-1 = omega (arith, found.ensures.from, w.behind-is) in (
            escape-read quote text start at _ found.field-0-1 c.loop-at.bytes c.loop-at.last found.field-0-0 c.if-byte-eq92.last
                c.saturating_add-bytes.result read w.if-byte-eq92.true found.ensures.is found.ensures.some found.ensures.byte
                w.last-is end one,
            omega (arith, found.ensures.from, w.behind-is),
          )
      | else-byte-eq92 w ↦
          let end : max (at + 1) c.if-byte-eq92.behind ≡ at + 1 = omega (arith, w.behind-is) in (
            literal-read quote text start at _ c.loop-at.bytes c.loop-at.last c.if-byte-eq92.last c.saturating_add-bytes.result
                read w.last-is c.if-byte-quote.false c.if-byte-eq10.false w.if-byte-eq92.false end one,
            omega (arith, w.behind-is),
          )
    ]
