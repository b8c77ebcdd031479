use Rattle.std.proofs.Common.{ap, ◌∙◌}
use Rattle.lrtext.proofs.StoredReadings.{line_more}
use Rattle.lrtext.proofs.reading.Reading.end_line.Goals as goal

-- the line in hand is done
pub returns : goal.returns
returns c =
    line_more c.args.self.now c.in-Some.kind c.replace-names.result c.replace-names.new.dest c.push.new.self c.in-Some.is c.in_ok-push.ensures.items c.replace-names.ensures.value (ap (λ v. v.items) c.replace-names.ensures.after ∙ c.new-empty.ensures.items)
