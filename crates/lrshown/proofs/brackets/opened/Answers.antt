-- one more production
use Rattle.std.proofs.Common.{◌≡◌, ◌++◌, ◌∷◌, [], map, string_bytes, codes, sym, ap, ◌∙◌, append_assoc}
use Rattle.std.proofs.lemmas.List.{append-nil, map-append}
use Rattle.lrshown.specs.BracketTexts.{cut_text}
use Rattle.lrshown.specs.BracketSteps.{name_at, front_at, fronts}
use Rattle.lrshown.proofs.TreeWords.{fronts-append}
use Rattle.lrshown.proofs.brackets.opened.Goals as goal

pub loop-number-preserved : goal.loop-number-preserved
loop-number-preserved c =
    let file = c.args.file.now in
    let ns = c.args.shown.now.tree.nodes.items in
    let mark = c.args.mark.now in
    let cuts = c.args.shown.now.cuts.items in
    let m = c.in-Some.number.now in
    let so_far = map (λ n. n.now) c.loop-number.yielded in
    let before = fronts file ns mark cuts so_far in
    let name = name_at file ns m in
    let cut = cut_text mark cuts m in
    let front = front_at file ns mark cuts m in
    let named : string_bytes c.push_str.new.self ≡ before ++ name =
    c.in_ok-push_str.ensures.bytes ∙ (ap (λ l. string_bytes c.loop-number.text ++ l) c.node_name.ensures ∙ ap (λ l. l ++ name) c.loop-number.invariant) in
    let bracket : string_bytes c.push_str-in-loop-number.new.self ≡ (before ++ name) ++ codes "(" =
    c.in_ok-push_str-2.ensures.bytes ∙ ap (λ l. l ++ codes "(") named in
    c.in_ok-push_str-3.ensures.bytes
    ∙ (ap (λ l. string_bytes c.push_str-in-loop-number.new.self ++ l) c.cut_mark.ensures
    ∙ (ap (λ l. l ++ cut) bracket
    ∙ (ap (λ l. l ++ cut) (append_assoc before name (codes "("))
    ∙ (append_assoc before (name ++ codes "(") cut
    ∙ (ap (λ l. before ++ l) (sym (append-nil front))
    ∙ (sym (fronts-append file ns mark cuts so_far (m ∷ []))
    ∙ ap (λ l. fronts file ns mark cuts l) (sym (map-append (λ n. n.now) c.loop-number.yielded (c.in-Some.number ∷ [])))))))))
