use Rattle.std.proofs.Common.{◌≡◌, ◌-◌, ◌*◌, ◌%◌, ◌≤◌, length}
use Rattle.lrbits.specs.Words.{places_left}
use Rattle.lrbits.proofs.vob.IterSetBitsIterator.next.Given as goal

abbrev pub invariant-loop-self : goal.invariant-loop-self
invariant-loop-self l = record {
  order : l.self-inside.base ≤ l.self-inside.end;
  whole : l.self-inside.base % 64 ≡ 0;
  within : l.self-inside.end ≤ 64 * length l.self-inside.words.now;
  same : places_left l.self-inside.words.now l.self-inside.word l.self-inside.base l.self-inside.end
      ≡ places_left l.initial.self-inside.words.now l.initial.self-inside.word
      l.initial.self-inside.base l.initial.self-inside.end;
}

abbrev pub decreases-loop-self : goal.decreases-loop-self
decreases-loop-self l = l.self-inside.end - l.self-inside.base
