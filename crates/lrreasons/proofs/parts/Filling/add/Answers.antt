use Rattle.std.proofs.Common.{◌+◌, refl}
use Rattle.lrreasons.proofs.Fillings.{reduction_fills, text_fills}
use Rattle.lrreasons.proofs.parts.Filling.add.Goals as goal

pub returns-in_ok-push-in-Reduce : goal.returns-in_ok-push-in-Reduce
returns-in_ok-push-in-Reduce c = λ _.
    rw c.in-Reduce.is (reduction_fills c.args.texts.now c.args.self.now (record { moves = c.push.new.self; used = c.args.self.now.used }) c.in-Reduce.field-0 refl
    (rw c.in-Reduce.is at c.in_ok-push-in-Reduce.ensures.items))

pub returns-in_ok-extend_from_slice-in-Shift : goal.returns-in_ok-extend_from_slice-in-Shift
returns-in_ok-extend_from_slice-in-Shift c = λ _.
    let found = c.in-Some.ensures.lookup in
    rw c.in-Shift.is
    (text_fills c.args.texts.now c.args.self.now (record { moves = c.extend_from_slice.new.self; used = c.args.self.now.used + 1 }) c.in-Some.text.now found.3.0 found.1 refl
    (rw c.as_slice.ensures.value at c.in_ok-extend_from_slice-in-Shift.ensures.items))
