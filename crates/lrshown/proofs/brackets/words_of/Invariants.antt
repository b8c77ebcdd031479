-- what is left goes on with those so far
use Rattle.std.proofs.Common.{◌≡◌, [], map, drop}
use Rattle.lrshown.specs.BracketSteps.{word_of}
use Rattle.lrshown.proofs.TreeWords.{words_by}
use Rattle.lrshown.proofs.brackets.words_of.Given as goal

abbrev pub invariant-loop-number : goal.invariant-loop-number
invariant-loop-number l =
    let ns = l.shown.tree.nodes.items in
    let es = map (λ v. v.items) l.shown.tree.entered.items in
    let cuts = l.shown.cuts.items in
    words_by l.file ns l.mark cuts [] ns es
    ≡ words_by l.file ns l.mark cuts (map word_of l.words.items) (drop l.number ns) (drop l.number es)
