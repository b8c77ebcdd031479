use Rattle.lrcommand.specs.Requests.{bytes_of}
use Rattle.lrcommand.specs.Lines.{AnswersAll}
use Rattle.lrcommand.proofs.AnsweredLines.{passed_on}
use Rattle.lrcommand.proofs.lines.answer_input.Goals as goal

pub returns-clause-all : goal.returns-clause-all
returns-clause-all g c =
    passed_on (bytes_of c.args.file) _ _ c.args.reply c.args.steps
    (λ answer. AnswersAll answer (g.R.Read.remaining c.args.reader) (g.W.Write.contents c.args.out) (g.W.Write.contents c.answer_and_flush-answered.result.1))
    c.answer_and_flush-answered.result.0 c.map_err.result c.map_err.ensures.variant c.in-Ok.ensures.machine c.answer_and_flush-answered.ensures.all
