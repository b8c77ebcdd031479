use Rattle.std.proofs.Common.{◌≡◌, ◌∙◌, ap, length, replicate, arith}
use Rattle.lrbits.specs.Words.{word_bit}
use Rattle.lrbits.proofs.FilledWords.{filled_bit}
use Rattle.lrbits.proofs.vob.fill_words.Goals as goal

pub returns : goal.returns
returns c =
    let n = length c.args.words.now in
    let e : c.fill.new.self ≡ replicate n c.word_of.result = c.fill.ensures.after (λ y h. h) in
    record {
      len = omega arith;
      used = λ i h. c.clear_unused.ensures.used i h ∙ ap (λ ws. word_bit ws i) e
          ∙ filled_bit n c.word_of.result c.args.value c.word_of.ensures.bits i (omega arith);
      unused = c.clear_unused.ensures.unused;
    }
