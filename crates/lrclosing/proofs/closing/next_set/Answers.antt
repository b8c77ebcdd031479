use Rattle.lrclosing.proofs.SetPlaces.{first_set, next_set_place, none_set_place}
use Rattle.lrclosing.proofs.closing.next_set.Goals as goal

pub returns-in-Some-clause-is_set : goal.returns-in-Some-clause-is_set
returns-in-Some-clause-is_set c = first_set c.args.bits.now c.args.from c.args.end c.in-Some.place c.iter_set_bits.result _ c.iter_set_bits.ensures.members c.in-Some.ensures.steps

pub returns-in-None-clause-none : goal.returns-in-None-clause-none
returns-in-None-clause-none c =
    none_set_place c.args.bits.now c.args.from c.args.end c.iter_set_bits.result c.iter_set_bits-in-None.result _ c.next-in-None.result c.iter_set_bits.ensures.members
    c.in-None.ensures.steps.0 c.iter_set_bits-in-None.ensures.members c.next-in-None.ensures.steps c.requires.end

pub returns-in-None-clause-is_set : goal.returns-in-None-clause-is_set
returns-in-None-clause-is_set c =
    next_set_place c.args.bits.now 0 c.args.from c.iter_set_bits-in-None.result _ c.next-in-None.result c.iter_set_bits-in-None.ensures.members c.next-in-None.ensures.steps
