use Rattle.std.proofs.Common.{◌≡◌, ℕ, ◌≤◌, ◌-◌, [], length, map, take, codes, string_bytes, ap, ◌∙◌, arith, vec_len}
use Rattle.std.proofs.lemmas.List.{length-map}
use Rattle.lrshown.specs.BracketTexts.{Word, row_words, with_dot}
use Rattle.lrparsing.proofs.JoinedTexts.{without_last, dot_last, as_many}
use Rattle.lrparsing.proofs.texts.words_of.Goals as goal

pub returns : goal.returns
returns c = λ ts drawn.
    let v = c.in_ok-words.words in
    let n : ℕ = 18446744073709551615 in
    let ws = row_words c.args.file.now [] c.args.tree.now.cuts.items 0 ts in
    let e : map string_bytes v.items ≡ with_dot n ws = c.in_ok-words.ensures ts drawn in
    let few : length ws ≤ n = omega (arith, as_many n ws, ap length e, length-map v.items string_bytes, v.ok.0, v.small) in
    let size : vec_len v ≡ length v.items = omega (arith, v.ok.0) in
    ap (map string_bytes) (c.pop.ensures.rest ∙ ap (λ k. take (k - 1) v.items) size)
    ∙ without_last string_bytes v.items (map (λ (w : Word). w.bytes) ws) (codes ".") (e ∙ dot_last n ws few)
