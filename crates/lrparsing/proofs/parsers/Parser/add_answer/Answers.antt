use Rattle.std.proofs.Common.{◌≡◌, ◌++◌, codes, subst, sym}
use Rattle.std.specs.Fmt.{decimal}
use Rattle.lrwriter.specs.Texts.{Adds, Held}
use Rattle.lrparsing.specs.declared.answers.Answer.{Answer}
use Rattle.lrparsing.specs.declared.answers.Answer.TheVariants.{Unfinished}
use Rattle.lrparsing.specs.declared.parsers.Parser.{Parser}
use Rattle.lrparsing.specs.AnswerTexts.{TellsAnswer}
use Rattle.lrparsing.proofs.parsers.Parser.add_answer.Goals as goal

-- that there is no end
unfinished : (p : Parser) (a : Answer) (old new : Held) → a ≡ Unfinished → TellsAnswer p Unfinished old new → TellsAnswer p a old new
unfinished p a old new is told = subst (λ a. TellsAnswer p a old new) (sym is) told

pub returns-in-Unfinished : goal.returns-in-Unfinished
returns-in-Unfinished c =
    let told : Adds c.args.text.now c.write.new.self (codes "not ended in " ++ decimal c.args.self.now.machine.steps ++ codes " steps\n") =
    rw c.steps-steps.ensures at c.write.ensures in
    unfinished c.args.self.now c.args.answer.now c.args.text.now c.write.new.self c.in-Unfinished.is told
