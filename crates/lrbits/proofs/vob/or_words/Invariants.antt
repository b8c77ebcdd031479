use Rattle.std.proofs.Common.{◌≡◌, true, false}
use Rattle.lrbits.proofs.JoinedWords.{AreJoined, AreLeft, IsChanged}
use Rattle.lrbits.proofs.vob.or_words.Given as goal

abbrev pub invariant-loop-i : goal.invariant-loop-i
invariant-loop-i l = record {
  joined : AreJoined l.words l.initial.words l.other l.i;
  left : AreLeft l.words l.initial.words l.i;
  kept : l.changed ≡ false → l.words ≡ l.initial.words;
  more : l.changed ≡ true → IsChanged l.words l.initial.words l.i;
}
