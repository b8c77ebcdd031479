use Rattle.std.specs.String.{string_bytes}
use Rattle.lrtable.specs.ItemSets.{set_of}
use Rattle.lrcommand.proofs.PrintedTexts.{start_printed}
use Rattle.lrcommand.proofs.printing.start_text.Goals as goal

pub close-requires-clause-fits : goal.close-requires-clause-fits
close-requires-clause-fits c = rw c.in_ok-core.ensures c.in_ok-of_start.ensures.fits

pub returns : goal.returns
returns c =
    let closed = c.in_ok-closed in
    let text = c.in_ok-pp in
    start_printed string_bytes c.args.grm.now (set_of (λ n. n) closed.closed) (string_bytes text.field-0) c.ended.result
    (record { fits = closed.ensures.fits; canonical = closed.ensures.start (rw c.in_ok-core.ensures c.in_ok-of_start.ensures.core); upwards = text.ensures.upwards })
    text.ensures.text c.ended.ensures
