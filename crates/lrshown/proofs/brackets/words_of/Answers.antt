-- one more node
use Rattle.std.proofs.Common.{arith, ◌≡◌, ◌+◌, ◌<◌, ◌≤◌, [], map, drop, length, get_or, sym, ap, ◌∙◌}
use Rattle.std.proofs.lemmas.List.{drop_all}
use Rattle.lrgrammar.specs.declared.grammar.PartSymbol.TheVariants.{Rule}
use Rattle.lrshown.specs.declared.trees.Node.TheVariants as code
use Rattle.lrshown.specs.DrawnTrees.{row_nodes}
use Rattle.lrshown.specs.BracketSteps.{word_of, with_node}
use Rattle.lrshown.proofs.TreeWords.{words_by, words_by-next, words-of_row}
use Rattle.lrshown.proofs.brackets.words_of.Goals as goal

pub loop-number-preserved : goal.loop-number-preserved
loop-number-preserved c =
    let file = c.args.file.now in
    let mark = c.args.mark.now in
    let cuts = c.args.shown.now.cuts.items in
    let ns = c.args.shown.now.tree.nodes.items in
    let es = map (λ v. v.items) c.args.shown.now.tree.entered.items in
    let i = c.loop-number.number in
    let d = code.Leaf (Rule 0) in
    let words = map word_of c.loop-number.words.items in
    let within : i < length ns = omega (arith, c.loop-number-test.true, ap length c.deref-node-items.ensures.value) in
    let added : map word_of c.add_node.new.words.items ≡ with_node file ns mark cuts words (get_or ns i d) (get_or es i []) =
    c.in_ok-add_node.ensures
    ∙ (ap (λ e. with_node file ns mark cuts words (get_or c.deref-node-items.result.now i d) e) c.entered_before-entered.ensures
    ∙ ap (λ l. with_node file ns mark cuts words (get_or l i d) (get_or es i [])) c.deref-node-items.ensures.value) in
    c.loop-number.invariant
    ∙ (words_by-next file ns mark cuts words ns es i d within ∙ ap (λ l. words_by file ns mark cuts l (drop (i + 1) ns) (drop (i + 1) es)) (sym added))

pub returns : goal.returns
returns c = λ ts h.
    let file = c.args.file.now in
    let mark = c.args.mark.now in
    let cuts = c.args.shown.now.cuts.items in
    let ns = c.args.shown.now.tree.nodes.items in
    let es = map (λ v. v.items) c.args.shown.now.tree.entered.items in
    let i = c.loop-number.number in
    let words = map word_of c.loop-number.words.items in
    let all : length ns ≤ i = omega (arith, c.loop-number-test.false, ap length c.deref-node-items.ensures.value) in
    ap (λ l. words_by file ns mark cuts words l (drop i es)) (sym (drop_all i ns all))
    ∙ (sym c.loop-number.invariant
    ∙ (ap (λ l. words_by file l mark cuts [] l es) h.nodes_are ∙ (ap (λ l. words_by file (row_nodes ts) mark cuts [] (row_nodes ts) l) h.entered_are ∙ words-of_row file mark cuts ts)))
