-- those before the mark
use Rattle.std.proofs.Common.{take, sym, ap, ◌∙◌, arith}
use Rattle.std.specs.Option.{option_map}
use Rattle.std.proofs.lemmas.List.{length-map, length-take, take-map}
use Rattle.lrgrammar.specs.Symbols.{symbol_of, number_of}
use Rattle.lrexchange.specs.StoredPositions.{symbols_of, mark_of, ours_of}
use Rattle.lrexchange.proofs.SunkPositions.{first_before}
use Rattle.lrexchange.proofs.sinking.sinkable.Goals as goal

pub returns-then-mark-symbols : goal.returns-then-mark-symbols
returns-then-mark-symbols c =
    let shown = symbol_of number_of in
    let n = c.in-Some.mark.place in
    let xs = c.as_slice-symbols.result.now in
    first_before (ours_of c.args.position.now.ours) (mark_of c.in-Some.mark) (symbols_of (take n xs)) (ap (option_map mark_of) c.in-Some.is)
    (sym (take-map shown n xs) ∙ ap (λ ys. take n (symbols_of ys)) c.as_slice-symbols.ensures.value)
    (omega (arith, length-map (take n xs) shown, length-take n xs))
