use Rattle.lrtext.proofs.StoredReadings.{declared_more, name_more}
use Rattle.lrtext.proofs.reading.Reading.add_name.Goals as goal

-- one more name of the line in hand
pub returns-in_ok-push-in-None : goal.returns-in_ok-push-in-None
returns-in_ok-push-in-None c = declared_more c.args.self.now c.args.name c.push.new.self c.in-None.is c.in_ok-push-in-None.ensures.items

pub returns-in_ok-push-in-Some : goal.returns-in_ok-push-in-Some
returns-in_ok-push-in-Some c =
    name_more c.args.self.now c.in-Some.field-0 c.args.name c.push-in-Some.new.self c.in-Some.is c.in_ok-push-in-Some.ensures.items
