use Rattle.std.proofs.Common.{ap, sym, ◌∙◌}
use Rattle.lrspec.specs.tables.Machine.{Answer}
use Rattle.lrtable.specs.RunAnswers.{text_of, verdict_of}
use Rattle.lrtree.specs.StoredTrees.{tree_of}
use Rattle.lrtree.proofs.ParsedLines.{sentence_printable}
use Rattle.lrtree.proofs.parsing.parse.Goals as goal

pub returns-in_ok-build-in-Accepted-clause-tree : goal.returns-in_ok-build-in-Accepted-clause-tree
returns-in_ok-build-in-Accepted-clause-tree g c =
    let (s, same) = c.in_ok-ran.ensures.sound (ap verdict_of c.in-Accepted.is) in
    let built = c.in_ok-build-in-Accepted.ensures s.tree (record { rule = s.rule; start = s.start; is_tree = s.is_tree; productions = same }) in
    (s, sym built, same ∙ ap (λ (a : Answer). a.reductions) c.in_ok-ran.ensures.answer)

pub returns-in_ok-build-in-Accepted-clause-only_tree : goal.returns-in_ok-build-in-Accepted-clause-only_tree
returns-in_ok-build-in-Accepted-clause-only_tree g c = λ k u.
    let (s, same, _) = returns-in_ok-build-in-Accepted-clause-tree g c in
    c.in_ok-ran.ensures.one_tree k (text_of g.T.IndexStorage.number c.args.text.now) u s ∙ same

pub returns-in_ok-build-in-Accepted-clause-printable : goal.returns-in_ok-build-in-Accepted-clause-printable
returns-in_ok-build-in-Accepted-clause-printable g c =
    let (s, same, _) = returns-in_ok-build-in-Accepted-clause-tree g c in
    sentence_printable s (tree_of g.T.IndexStorage.number c.in_ok-build-in-Accepted.field-0) same c.requires.named
