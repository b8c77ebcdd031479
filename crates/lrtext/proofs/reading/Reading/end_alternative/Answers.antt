use Rattle.std.proofs.Common.{ap, ◌∙◌}
use Rattle.lrtext.proofs.StoredReadings.{alternative_more}
use Rattle.lrtext.proofs.reading.Reading.end_alternative.Goals as goal

-- the alternative in hand is done
pub returns : goal.returns
returns c =
    alternative_more c.args.self.now c.replace-body.result c.replace-body.new.dest c.push.new.self c.in_ok-push.ensures.items c.replace-body.ensures.value (ap (λ v. v.items) c.replace-body.ensures.after ∙ c.new-empty.ensures.items)
