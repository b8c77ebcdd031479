use Rattle.std.proofs.Common.{[], ◌∷◌, map, arith}
use Rattle.std.specs.Prelude.{codes}
use Rattle.std.specs.String.{string_bytes}
use Rattle.lrgrammar.specs.Symbols.{symbol_of, number_of}
use Rattle.lrreasons.specs.Words.{words_of}
use Rattle.lrreasons.proofs.Pieces.{last_of_two}
use Rattle.lrreasons.proofs.Shown.{all_first, some_first}
use Rattle.lrreasons.proofs.words.push_first.Goals as goal

pub returns-then-symbols-le-MOST : goal.returns-then-symbols-le-MOST
returns-then-symbols-le-MOST c =
    rw (all_first c.args.grm.now (symbol_of number_of) c.args.symbols.now (omega arith)) c.push_symbols.ensures

pub returns : goal.returns
returns c =
    let f = symbol_of number_of in
    let m = c.args.grm.now in
    let shown = c.split_at.result.0.now in
    rw (some_first m f c.args.symbols.now shown (omega arith) c.split_at.ensures.front)
    (last_of_two c.push_word.result (map string_bytes c.args.words.now.items) (map string_bytes c.push_symbols-2.new.words.items) (map string_bytes c.push_word.new.words.items)
    (words_of m (map f shown)) (codes "..." ∷ []) c.in_ok-push_symbols.ensures c.push_word.ensures)
