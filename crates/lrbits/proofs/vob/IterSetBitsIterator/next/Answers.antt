use Rattle.std.proofs.Common.{◌≡◌, ◌<◌, ◌^◌, Fits, w64, sym, ◌∙◌, arith, rules, []}
use Rattle.std.proofs.Math.Facts.{Fits-lt-pow}
use Rattle.lrbits.proofs.PlacesLeft.{next_word, no_word, lowest_place, past_end}
use Rattle.lrbits.specs.Words.{places_left}
use Rattle.lrbits.proofs.vob.IterSetBitsIterator.next.Goals as goal
use Rattle.lrbits.proofs.vob.IterSetBitsIterator.next.Goals.{then-i-self, else-i-self}

pub loop-self-preserved : goal.loop-self-preserved
loop-self-preserved c =
    let s = c.loop-self.self-inside in
    let m = c.loop-self.invariant in
    let z : s.word ≡ 0 = omega arith in
    record {
      order = omega arith;
      whole = omega arith;
      within = omega arith;
      same = sym (next_word s.words.now s.base s.end m.whole m.within (omega arith)) ∙ rw z at m.same;
    }

pub returns-then-self-le64-clause-steps : goal.returns-then-self-le64-clause-steps
returns-then-self-le64-clause-steps c =
    let s = c.loop-self.self-inside in
    let m = c.loop-self.invariant in
    let z : s.word ≡ 0 = omega arith in
    let n : places_left s.words.now s.word s.base s.end ≡ [] = rw z
    (no_word s.words.now s.base s.end m.whole m.within (omega arith)) in
    (sym c.self.view_is ∙ sym m.same ∙ n, n)

-- the item is the first of those that are left
gives : goal.returns-clause-steps
gives c =
    let s = c.loop-self.self-inside in
    let m = c.loop-self.invariant in
    let some : 0 < s.word = omega arith in
    let known : Fits w64 s.word = search rules in
    let fits : s.word < 2 ^ 64 = Fits-lt-pow known in
    let i : c.args.self.now ≡ places_left s.words.now s.word s.base s.end = sym c.self.view_is ∙ sym m.same in
    elim c.if-i-self.branch [
      | then-i-self w ↦ rw w.result-is (i
          ∙ lowest_place s.words.now s.base s.end m.whole m.within s.word some fits w.if-i-self.true)
      | else-i-self w ↦ let p = past_end s.words.now s.base s.end m.whole m.within s.word some fits w.if-i-self.false in rw
          w.result-is (i ∙ p.0, p.1)
    ]

pub returns-clause-steps : goal.returns-clause-steps
returns-clause-steps c = gives c

pub returns-clause-goes : goal.returns-clause-goes
returns-clause-goes c = grind (arith, gives c)
