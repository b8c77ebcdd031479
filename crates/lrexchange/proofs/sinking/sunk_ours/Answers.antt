-- without first symbols
use Rattle.std.proofs.Common.{drop, refl, ap, ◌∙◌}
use Rattle.std.specs.Option.{option_map}
use Rattle.lrclosing.proofs.SymbolsBehindDots.{sliced}
use Rattle.lrgrammar.specs.Symbols.{symbol_of, number_of}
use Rattle.lrexchange.specs.StoredPositions.{symbols_of, mark_of, ours_of}
use Rattle.lrexchange.proofs.CutStacks.{none_left}
use Rattle.lrexchange.proofs.SunkPositions.{sunk_known, sunk_marked}
use Rattle.lrexchange.proofs.sinking.sunk_ours.Goals as goal

pub returns-in_default : goal.returns-in_default
returns-in_default c =
    let y = ours_of c.args.ours.now in
    let n = c.args.count in
    let xs = c.deref.result.now in
    sunk_known y (symbols_of c.in_ok-symbols.symbols.items) n (ap (option_map mark_of) (none_left c.args.ours.now.mark c.in_default.not-Some))
    (ap symbols_of c.in_ok-symbols.ensures.items ∙ sliced (symbol_of number_of) xs n (symbols_of xs) refl
    ∙ ap (λ ys. drop n (symbols_of ys)) c.deref.ensures.value)

pub returns : goal.returns
returns c =
    let y = ours_of c.args.ours.now in
    let n = c.args.count in
    let xs = c.deref.result.now in
    sunk_marked y (symbols_of c.in_ok-symbols.symbols.items) n (mark_of c.in-Some.mark) (mark_of c.sunk_mark.result) c.requires.within
    (ap (option_map mark_of) c.in-Some.is) c.sunk_mark.ensures
    (ap symbols_of c.in_ok-symbols.ensures.items ∙ sliced (symbol_of number_of) xs n (symbols_of xs) refl
    ∙ ap (λ ys. drop n (symbols_of ys)) c.deref.ensures.value)
