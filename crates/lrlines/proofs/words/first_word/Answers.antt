use Rattle.std.proofs.Common.{sym}
use Rattle.lrspec.proofs.texts.WordFacts.{no_words, first_word_is}
use Rattle.lrlines.proofs.words.first_word.Goals as goal

pub returns-in_err-word_start : goal.returns-in_err-word_start
returns-in_err-word_start c =
    rw c.from_residual.ensures (no_words c.args.line.now (sym c.in_err-word_start.ensures))

pub returns : goal.returns
returns c =
    first_word_is _ c.in_ok-word_start.field-0 _ c.blank_start.result _ _ _
    (sym c.in_ok-word_start.ensures) c.split_at.ensures.back c.blank_start.ensures
    c.unwrap_or.ensures c.split_at-2.ensures.front c.split_at-2.ensures.back
