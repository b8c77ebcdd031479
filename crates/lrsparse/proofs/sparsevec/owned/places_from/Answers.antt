use Rattle.std.proofs.Common.{◌<◌, ◌^◌, ◌%◌, ◌∙◌, sym, arith}
use Rattle.lrsparse.proofs.OwnedBits.{bit_of_two}
use Rattle.lrsparse.proofs.sparsevec.owned.places_from.Goals as goal

pub returns : goal.returns
returns c = λ i l.
    let within : c.word_at.result < 2 ^ 64 = omega arith in
    let some : 0 < c.args.place % 64 = omega arith in
    let e = bit_of_two c.args.words.now c.args.place i l some (rw (c.word_at.ensures) at within) in
    rw (c.word_at.ensures, c.word_at-2.ensures) (λ h. sym e ∙ h, λ h. e ∙ h)
