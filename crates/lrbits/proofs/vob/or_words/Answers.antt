use Rattle.std.proofs.Common.{ap, arith, sym, ◌∙◌}
use Rattle.std.proofs.lemmas.Bool.{true_from_ne_false}
use Rattle.lrbits.proofs.JoinedWords.{joined_same, joined_set, left_same, left_set, changed_same, changed_set, joined_bits, changed_bits}
use Rattle.std.proofs.Math.Facts.{Fits-lt-pow}
use Rattle.lrbits.specs.Words.{word_bit}
use Rattle.lrbits.proofs.vob.or_words.Goals as goal
use Rattle.lrbits.proofs.vob.or_words.Goals.{then-joined-words, else-joined-words}

pub loop-i-preserved : goal.loop-i-preserved
loop-i-preserved c =
    let i = c.loop-i.i in
    let ws = c.loop-i.words in
    let vs = c.args.words.now in
    let o = c.args.other.now in
    let m = c.loop-i.invariant in
    elim c.if-joined-words.branch [
      | then-joined-words w ↦ record {
        joined = rw w.words-is (joined_set ws vs o i m.joined m.left (omega arith));
        left = rw w.words-is (left_set ws vs o i _ m.left);
        kept = λ h. cc;
        more = λ _. rw w.words-is (changed_set ws vs o i _ m.left (omega arith) w.if-joined-words.true);
      }
      | else-joined-words w ↦ record {
        joined = rw w.words-is (joined_same ws vs o i m.joined m.left w.if-joined-words.false);
        left = rw w.words-is (left_same ws vs o i m.left);
        kept = λ h. w.words-is ∙ m.kept (sym w.changed-is ∙ h);
        more = λ h. rw w.words-is (changed_same ws vs o i (m.more (sym w.changed-is ∙ h)));
      }
    ]

pub returns-clause-each : goal.returns-clause-each
returns-clause-each c = joined_bits c.loop-i.words c.args.words.now c.args.other.now c.loop-i.i c.loop-i.invariant.joined
    (omega arith) (omega arith) (omega arith)

pub returns-clause-changed : goal.returns-clause-changed
returns-clause-changed c =
    let m = c.loop-i.invariant in
    let ws = c.loop-i.words in
    let vs = c.args.words.now in (
      λ t. changed_bits ws vs c.args.other.now c.loop-i.i m.joined (λ k. Fits-lt-pow (c.type_inv.other k)) (m.more t),
      λ n. true_from_ne_false c.loop-i.changed (λ f. n (λ i. ap (λ x. word_bit x i) (m.kept f))),
    )
