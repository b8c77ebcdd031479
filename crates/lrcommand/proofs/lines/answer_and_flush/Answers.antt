use Rattle.lrcommand.specs.Lines.{reply_text}
use Rattle.lrcommand.proofs.AnsweredLines.{answers_beginning}
use Rattle.lrcommand.proofs.lines.answer_and_flush.Goals as goal

pub returns-clause-beginning : goal.returns-clause-beginning
returns-clause-beginning g c =
    answers_beginning g.R.Read.remaining g.W.Write.contents (reply_text c.args.reply c.args.grm.now c.args.table.now c.args.steps)
    c.args.reader _ c.args.out _ _ c.into_inner-out.result c.flush.new.self
    c.new-reader.ensures.device c.new-writer.ensures.device c.into_inner-out.ensures.device c.reply_lines-answered.ensures.beginning c.flush.ensures.bytes
