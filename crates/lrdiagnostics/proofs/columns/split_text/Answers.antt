use Rattle.lrdiagnostics.proofs.CountedTexts.{no_char_in_none, no_char_behind}
use Rattle.lrdiagnostics.proofs.columns.split_text.Goals as goal

pub returns-in-Ok-clause-stray : goal.returns-in-Ok-clause-stray
returns-in-Ok-clause-stray c = no_char_in_none

pub returns-in-Err-clause-stray : goal.returns-in-Err-clause-stray
returns-in-Err-clause-stray c = rw c.split_at.ensures.back (no_char_behind c.args.bytes.now _ (rw c.valid_up_to.ensures c.in-Err.ensures.cases.1))
