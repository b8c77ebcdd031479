-- what is left goes on with those so far
use Rattle.std.proofs.Common.{◌≡◌, ◌++◌, map, string_bytes}
use Rattle.std.specs.Vec.Iter.{into_iter_items}
use Rattle.lrshown.specs.BracketTexts.{with_dot}
use Rattle.lrshown.specs.BracketSteps.{word_of, with_dot_left}
use Rattle.lrshown.proofs.brackets.tree_words.Given as goal

abbrev pub invariant-loop-word : goal.invariant-loop-word
invariant-loop-word l =
    with_dot l.dot (map word_of (into_iter_items l.initial.word-iterator))
    ≡ map string_bytes l.words.items ++ with_dot_left l.left (map word_of (into_iter_items l.word-iterator))
