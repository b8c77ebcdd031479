use Rattle.std.proofs.Common.{◌++◌, ap, sym, ◌∙◌, append_assoc}
use Rattle.std.specs.Prelude.{codes}
use Rattle.std.proofs.lemmas.Result.{on_ok_weaker}
use Rattle.lrspec.specs.tables.Machine.{Answer}
use Rattle.lrspec.specs.texts.TreeTexts.{tree_text}
use Rattle.lrtable.specs.RunAnswers.{text_of, verdict_of}
use Rattle.lrtree.proofs.ParsedLines.{parse_printed}
use Rattle.lrtree.proofs.lines.TreeLines.push_parsed.Goals as goal

pub push_tree-requires-clause-tree : goal.push_tree-requires-clause-tree
push_tree-requires-clause-tree g c =
    let (s, same) = c.in_ok-ran.ensures.sound (ap verdict_of c.in-Accepted.is) in
    (s.tree, record { rule = s.rule; start = s.start; is_tree = s.is_tree; productions = same })

pub returns-in_ok-extend_from_slice-in-Accepted : goal.returns-in_ok-extend_from_slice-in-Accepted
returns-in_ok-extend_from_slice-in-Accepted g c =
    let number = g.T.IndexStorage.number in
    let text = text_of number c.args.text.now in
    let verdict = ap verdict_of c.in-Accepted.is in
    let (s, same) = c.in_ok-ran.ensures.sound verdict in
    let answer = c.in_ok-ran.ensures.answer in
    let printed = parse_printed c.args.self.now.steps text c.allocator.ensures.shape c.requires.table_for c.requires.named (sym (ap (λ (a : Answer). a.verdict) answer) ∙ verdict) s (same ∙ ap (λ (a : Answer). a.reductions) answer) in
    let out = c.args.out.now.items in
    let own = tree_text c.args.self.now.grm.now s.tree in
    let begun = c.in_ok-extend_from_slice-in-Accepted.ensures.items ∙ ap (λ l. out ++ l) c.as_bytes.ensures.value in
    on_ok_weaker c.push_tree.result
    (λ written.
    written s.tree (record { rule = s.rule; start = s.start; is_tree = s.is_tree; productions = same })
    ∙ ap (λ l. l ++ own) begun ∙ append_assoc out (codes "tree ") own ∙ ap (λ l. out ++ l) (sym printed)) c.push_tree.ensures
