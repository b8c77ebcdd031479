use Rattle.std.proofs.Common.{◌≡◌, [], ◌∷◌, ◌++◌, map, refl}
use Rattle.std.specs.Prelude.{codes}
use Rattle.std.specs.String.{string_bytes}
use Rattle.lrgrammar.specs.Symbols.{symbol_of, number_of}
use Rattle.lrreasons.specs.Words.{words_of, first_words, last_words}
use Rattle.lrreasons.proofs.Shown.{dotted}
use Rattle.lrreasons.proofs.words.words_with_dot.Goals as goal

pub returns : goal.returns
returns c =
    let f = symbol_of number_of in
    let m = c.args.grm.now in
    let before = c.split_at.result.0.now in
    let behind = c.split_at.result.1.now in
    let last : map string_bytes c.push_last.new.words.items ≡ last_words (words_of m (map f before)) = rw c.new-words.ensures.items at c.in_ok-push_last.ensures in
    let made : map string_bytes c.push_first.new.words.items ≡ (last_words (words_of m (map f before)) ++ codes "." ∷ []) ++ first_words (words_of m (map f behind)) = rw (c.in_ok-push_first.ensures, c.in_ok-push_word.ensures, last) refl in
    dotted m f c.args.symbols.now before behind c.args.dot c.min.result (map string_bytes c.push_first.new.words.items) c.min.ensures c.split_at.ensures.front c.split_at.ensures.back made
