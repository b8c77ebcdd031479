-- the last one
use Rattle.std.proofs.Common.{rules, arith, ◌≡◌, ◌-◌, ◌<◌, map, length, get_or, vec_len, ap, ◌∙◌}
use Rattle.lrshown.specs.BracketSteps.{word_of}
use Rattle.std.proofs.Math.ListN.{set}
use Rattle.lrshown.specs.declared.brackets.Word as stored
use Rattle.lrshown.proofs.TreeWords.{closed_at}
use Rattle.lrshown.proofs.brackets.close.Goals as goal

pub returns-in_ok-push_str : goal.returns-in_ok-push_str
returns-in_ok-push_str c =
    let words = c.args.words.now.items in
    let word = c.in-Some.word.now in
    let longer : stored.Word = record { text = c.push_str.new.self; has_leaf = word.has_leaf } in
    let len : vec_len c.args.words.now ≡ length words = omega (arith, c.args.words.now.ok.0) in
    let some : 0 < length words = search rules in
    let is : word ≡ get_or words (vec_len c.args.words.now - 1) word = search rules in
    ap (λ n. map word_of (set words (n - 1) longer)) len
    ∙ closed_at word_of words word longer some (is ∙ ap (λ n. get_or words (n - 1) word) len)
    (ap (λ b. record { bytes = b; has_leaf = word.has_leaf }) c.in_ok-push_str.ensures.bytes)
