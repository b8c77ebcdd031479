use Rattle.std.proofs.Common.{◌≡◌, map, refl}
use Rattle.std.specs.String.{string_bytes}
use Rattle.lrspec.specs.grammars.Grammar as math
use Rattle.lrgrammar.specs.Symbols.{symbol_of, number_of}
use Rattle.lrreasons.specs.Words.{first_words}
use Rattle.lrreasons.specs.StoredTexts.{token_words}
use Rattle.lrreasons.proofs.texts.push_rest.Goals as goal

pub returns : goal.returns
returns c =
    let m = c.args.grm.now in
    let tokens = c.in-Some.rest.now.tokens.items in
    let symbols : map (symbol_of number_of) c.deref-2.result.now ≡ map (λ t. math.Symbol.Token t.0) tokens = rw (c.deref-2.ensures.value, c.in_ok-symbols.ensures, c.deref.ensures.value) refl in
    let words : map string_bytes c.deref-3.result.now ≡ first_words (token_words m tokens) = rw (c.deref-3.ensures.value, c.in_ok-push_first.ensures, c.new-words.ensures.items, symbols) refl in
    rw (c.in-Some.is, ← words) c.push_line.ensures
