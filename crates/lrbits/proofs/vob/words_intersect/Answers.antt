use Rattle.std.proofs.Common.{get_or, Fits, w64, rules}
use Rattle.std.specs.Int.RustNames.{bit_and}
use Rattle.std.proofs.Math.Facts.{Fits-lt-pow}
use Rattle.lrbits.proofs.SharedBits.{shared_place, none_shared}
use Rattle.lrbits.proofs.vob.words_intersect.Goals as goal

pub returns-then-words-i-ne0 : goal.returns-then-words-i-ne0
returns-then-words-i-ne0 c =
    let f : Fits w64 (bit_and (get_or c.args.words.now c.loop-i.i 0) (get_or c.args.other.now c.loop-i.i 0)) = search rules in
    (λ _. shared_place c.args.words.now c.args.other.now c.loop-i.i c.if-words-i-ne0.true (Fits-lt-pow f), λ _. search rules)

pub returns : goal.returns
returns c = (
  λ h. absurd (search rules),
  λ p. absurd
      (none_shared c.args.words.now c.args.other.now c.loop-i.i c.loop-i.invariant c.loop-i-test.false p.0 p.1 p.2),
)
