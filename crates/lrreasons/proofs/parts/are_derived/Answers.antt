use Rattle.std.proofs.Common.{◌≡◌, ℕ, ◌+◌, Bor, [], ◌∷◌, ◌++◌, length, arith, rules}
use Rattle.std.specs.Iterator.Adapters.{zip_first, zip_second}
use Rattle.std.specs.Slice.Iter.{iter_rest}
use Rattle.std.proofs.lemmas.List.{length-append}
use Rattle.std.proofs.lemmas.Slice.Zip.{zip_turn}
use Rattle.lrgrammar.specs.declared.idx.Symbol.{Symbol}
use Rattle.lrconflicts.specs.declared.moves.Written.{Written}
use Rattle.lrreasons.proofs.Fillings.{derived_more}
use Rattle.lrreasons.proofs.parts.are_derived.Goals as goal

pub loop-symbol-preserved : goal.loop-symbol-preserved
loop-symbol-preserved c =
    let symbols = c.args.symbols.now in
    let texts = c.args.texts.now in
    let so_far = c.loop-symbol.yielded in
    let pair : Bor (Symbol ℕ) × Bor (Written ℕ) = (c.in-Some.symbol, c.in-Some.text) in
    let one : iter_rest (zip_first c.into_iter-symbol-iterator.result) ≡ symbols = search rules in
    let other : iter_rest (zip_second c.into_iter-symbol-iterator.result) ≡ texts = search rules in
    let turn = zip_turn symbols texts so_far c.into_iter-symbol-iterator.result c.loop-symbol.symbol-iterator c.next.new.self c.next.result one other
    c.loop-symbol.yielded_by pair c.in-Some.is c.next.ensures.steps in
    let count : length (so_far ++ pair ∷ []) ≡ length so_far + 1 = omega (arith, length-append so_far (pair ∷ [])) in
    rw count
    (derived_more c.args.grm.now symbols texts (length so_far) c.in-Some.symbol.now c.in-Some.text.now turn.0 (turn.2 c.in-Some.symbol.now) turn.1 (turn.3 c.in-Some.text.now)
    (c.in_ok-reads_as.ensures c.if-not-branch.false) c.loop-symbol.invariant)
