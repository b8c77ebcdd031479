use Rattle.std.proofs.Common.{◌≡◌, true, false}
use Rattle.lrambiguity.proofs.FoldSteps.{none_made, made_more, none_derived, derived, all_derived}
use Rattle.lrambiguity.proofs.derivations.derives.Goals as goal

pub loop-action-init : goal.loop-action-init
loop-action-init g c =
    let number = g.T.IndexStorage.number in
    let begun = c.new-fold.ensures in
    none_made number c.args.grm.now c.args.symbols.now c.args.moves.now c.new-fold.result (begun.folded c.args.grm.now c.args.symbols.now) begun.stack begun.used

pub loop-action-preserved : goal.loop-action-preserved
loop-action-preserved g c =
    made_more g.T.IndexStorage.number c.args.grm.now c.args.symbols.now c.args.moves.now c.loop-action.action-index c.action-item.result c.loop-action.fold c.make.new.self
    c.loop-action-test.true c.action-item.is c.loop-action.invariant (c.in_ok-make.ensures.made c.if-not-branch.false)

pub returns : goal.returns
returns g c =
    let number = g.T.IndexStorage.number in
    let moves = c.args.moves.now in
    let i = c.loop-action.action-index in
    let rule = number c.args.rule.0 in (
      λ is. let done = c.is_done.ensures.0 is in derived number c.args.grm.now c.args.symbols.now moves i c.loop-action.fold rule c.loop-action-test.false c.loop-action.invariant done.0 done.1,
      λ d. c.is_done.ensures.1 (all_derived number c.args.grm.now c.args.symbols.now moves i c.loop-action.fold rule c.loop-action-test.false c.loop-action.invariant d),
    )

pub returns-then-not-branch : goal.returns-then-not-branch
returns-then-not-branch g c = (
  λ is. let no : false ≡ true = is in cc,
  λ d.
      absurd (none_derived g.T.IndexStorage.number c.args.grm.now c.args.symbols.now c.args.moves.now c.loop-action.action-index c.action-item.result c.loop-action.fold
      (g.T.IndexStorage.number c.args.rule.0) c.loop-action-test.true c.action-item.is c.loop-action.invariant (c.in_ok-make.ensures.stuck c.if-not-branch.true) d),
)
