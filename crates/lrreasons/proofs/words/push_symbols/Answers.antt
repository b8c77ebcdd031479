use Rattle.std.proofs.Common.{map, get_or, append-nil, sym}
use Rattle.std.specs.String.{string_bytes}
use Rattle.std.proofs.lemmas.List.{get_or_default, take_all}
use Rattle.lrspec.specs.texts.PrintedTexts.{symbol_text}
use Rattle.lrgrammar.specs.Symbols.{symbol_of, number_of}
use Rattle.lrgrammar.specs.declared.idx.Symbol.TheVariants as stored
use Rattle.lrreasons.proofs.Pieces.{mapped_push, word_added}
use Rattle.lrreasons.proofs.words.push_symbols.Goals as goal

pub loop-symbol-init : goal.loop-symbol-init
loop-symbol-init c = sym (append-nil (map string_bytes c.args.words.now.items))

pub loop-symbol-preserved : goal.loop-symbol-preserved
loop-symbol-preserved c =
    let added = mapped_push string_bytes c.loop-symbol.words.items c.push.new.self.items c.in_ok-word.word _ c.in_ok-push.ensures.items c.in_ok-word.ensures in
    let xs = c.args.symbols.now in
    let i = c.loop-symbol.symbol-index in
    let l = c.loop-symbol-test.true in
    let none = stored.Rule (record { 0 = 0 }) in
    let x = get_or xs i none in
    word_added (symbol_of number_of) xs i x (symbol_text c.args.grm.now) _ _ _ l (get_or_default xs i none x l) c.loop-symbol.invariant added

pub returns : goal.returns
returns c = rw (take_all c.loop-symbol.symbol-index c.args.symbols.now c.loop-symbol-test.false) at c.loop-symbol.invariant
