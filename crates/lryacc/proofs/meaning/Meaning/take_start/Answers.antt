use Rattle.std.proofs.Common.{◌∙◌, ap, sym, subst}
use Rattle.std.specs.Bool.{OnFalse}
use Rattle.std.specs.BTreeSet.{IsUnchanged, contains}
use Rattle.std.specs.Ordering.{nat_cmp}
use Rattle.lryacc.specs.SaidTaken.TakesStart.{again, first}
use Rattle.lryacc.proofs.NamesOfOne.{ok-then}
use Rattle.lryacc.proofs.SaidHeld.{adds-start, not-false, not-true}
use Rattle.lryacc.proofs.meaning.Meaning.take_start.Goals as goal

pub returns-then-not-branch-clause-taken : goal.returns-then-not-branch-clause-taken
returns-then-not-branch-clause-taken c =
    let old = c.args.self.now in
    let number = c.in-Some.number in
    let there = not-false (contains nat_cmp old.started number) (sym c.in_ok-insert.ensures.added ∙ c.if-not-branch.true) in
    let same = subst (λ added. OnFalse added (IsUnchanged old.started c.insert.new.self)) c.if-not-branch.true c.in_ok-insert.ensures.unchanged in
    ok-then c.warn.result
    (λ keeps. again number (sym c.find.ensures ∙ c.in-Some.is) record { is = there; starts = keeps.said.starts; started = ap (λ set. set.keys) keeps.said.started ∙ same })
    c.warn.ensures

pub returns-clause-taken : goal.returns-clause-taken
returns-clause-taken c =
    let old = c.args.self.now in
    let number = c.in-Some.number in
    let none = not-true (contains nat_cmp old.started number) (sym c.in_ok-insert.ensures.added ∙ c.if-not-branch.false) in
    first number (sym c.find.ensures ∙ c.in-Some.is)
    (adds-start c.args.lexeme old _ number c.in_ok-insert.ensures.updates none c.in_ok-push.ensures.items)
