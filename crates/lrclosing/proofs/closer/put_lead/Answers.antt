use Rattle.lrclosing.proofs.PutLeads.{led_alone, led_joined, bits_alike}
use Rattle.lrclosing.proofs.closer.put_lead.Goals as goal
use Rattle.lrclosing.proofs.closer.put_lead.Goals.{else-lead-via-then-lead+else-lead-from, else-lead-via-else-lead}

pub returns-then-lead-from : goal.returns-then-lead-from
returns-then-lead-from c =
    led_joined c.args.from c.args.lead.now c.args.rows.now c.join_row.new.rows c.index-rows-lead.result c.or.new.self c.or.result c.join_row.result
    c.requires.lead c.requires.from c.if-lead-from.true c.if-lead.true c.or.ensures.after c.or.ensures.changed c.join_row.ensures.joined c.join_row.ensures.changed

pub returns-else-lead : goal.returns-else-lead
returns-else-lead c =
    led_alone c.args.from c.args.lead.now c.args.rows.now c.index-rows-lead.result c.or.new.self c.or.result c.requires.lead c.requires.from
    (elim c.else-lead.branch [
      | else-lead-via-then-lead+else-lead-from w ↦ λ i. w.if-lead-from.false
      | else-lead-via-else-lead w ↦ λ i. cc
    ])
    c.or.ensures.after c.or.ensures.changed

pub join_row-requires-clause-bits : goal.join_row-requires-clause-bits
join_row-requires-clause-bits c = λ v w h k.
    bits_alike c.args.rows.now c.args.lead.now c.args.from c.index-rows-lead.result c.or.new.self v w c.requires.lead c.or.ensures.after h k
