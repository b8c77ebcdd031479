use Rattle.std.proofs.Common.{refl, map}
use Rattle.lrtext.specs.StoredParts.{precedence_of}
use Rattle.lrtext.specs.StoredLevels.{leveled_of}
use Rattle.lrtext.proofs.ListSteps.{pushed_behind, behind_all}
use Rattle.lrtext.proofs.meaning.precedences.push_line.Goals as goal

-- one more name was pushed
pub loop-name-preserved : goal.loop-name-preserved
loop-name-preserved c =
    let p = precedence_of (record { level = c.args.level; kind = c.args.line.now.kind }) in
    pushed_behind leveled_of (λ w. (w, p)) (λ w. w.now) c.deref-name-items.result.now c.args.line.now.names.items c.loop-name.name-index _ _ c.loop-name.leveled.items c.push.new.self.items _ c.deref-name-items.ensures.value c.loop-name-test.true c.loop-name.invariant c.in_ok-push.ensures.items refl

-- all names were pushed
pub returns : goal.returns
returns c =
    let p = precedence_of (record { level = c.args.level; kind = c.args.line.now.kind }) in
    behind_all leveled_of (λ w. (w, p)) (λ w. w.now) c.deref-name-items.result.now c.args.line.now.names.items c.loop-name.name-index (map leveled_of c.args.leveled.now.items) c.loop-name.leveled.items c.deref-name-items.ensures.value c.loop-name-test.false c.loop-name.invariant
