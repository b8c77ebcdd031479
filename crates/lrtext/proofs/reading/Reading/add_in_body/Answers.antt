use Rattle.lrtext.proofs.StoredReadings.{plain_more, quoted_more}
use Rattle.lrtext.proofs.reading.Reading.add_in_body.Goals as goal

-- one more name in the body
pub returns-in_ok-push-in-Name : goal.returns-in_ok-push-in-Name
returns-in_ok-push-in-Name c = plain_more c.args.self.now c.args.lexeme c.in-Name.name c.push.new.self c.in-Name.is c.in_ok-push-in-Name.ensures.items

pub returns-in_ok-push-in-Quoted : goal.returns-in_ok-push-in-Quoted
returns-in_ok-push-in-Quoted c =
    quoted_more c.args.self.now c.args.lexeme c.in-Quoted.name c.push-in-Quoted.new.self c.in-Quoted.is c.in_ok-push-in-Quoted.ensures.items
