use Rattle.std.proofs.Common.{[], ◌∷◌, ◌-◌, length, map, refl, arith}
use Rattle.std.specs.Prelude.{codes}
use Rattle.std.specs.String.{string_bytes}
use Rattle.lrgrammar.specs.Symbols.{symbol_of, number_of}
use Rattle.lrreasons.specs.Words.{words_of}
use Rattle.lrreasons.proofs.Pieces.{last_of_two}
use Rattle.lrreasons.proofs.Shown.{all_last, some_last}
use Rattle.lrreasons.proofs.words.push_last.Goals as goal

pub returns-then-symbols-le-MOST : goal.returns-then-symbols-le-MOST
returns-then-symbols-le-MOST c =
    rw (all_last c.args.grm.now (symbol_of number_of) c.args.symbols.now (omega arith)) c.push_symbols.ensures

pub returns : goal.returns
returns c =
    let f = symbol_of number_of in
    let m = c.args.grm.now in
    let xs = c.args.symbols.now in
    let shown = c.split_at.result.1.now in
    rw (some_last m f xs shown (length xs - 24) (omega arith) refl c.split_at.ensures.back)
    (last_of_two c.push_symbols-2.result (map string_bytes c.args.words.now.items) (map string_bytes c.push_word.new.words.items) (map string_bytes c.push_symbols-2.new.words.items)
    (codes "..." ∷ []) (words_of m (map f shown)) c.in_ok-push_word.ensures c.push_symbols-2.ensures)
