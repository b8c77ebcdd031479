use Rattle.lrpager.specs.Choices as choice
use Rattle.lrpager.proofs.NextStates.{first_is_next}
use Rattle.lrpager.proofs.pager.next_unclosed.Goals as goal

pub returns-in-Some : goal.returns-in-Some
returns-in-Some g c = choice.IsNextUnclosed.later c.in-Some.ensures

pub returns : goal.returns
returns g c = first_is_next c.args.drafts.now c.args.from c.first_unclosed-2.result c.in_default.ensures c.first_unclosed-2.ensures
