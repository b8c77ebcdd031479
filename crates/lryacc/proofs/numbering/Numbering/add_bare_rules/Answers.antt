use Rattle.std.proofs.Common.{◌<◌, ◌∙◌, List, ap, length, refl, subst, sym}
use Rattle.std.proofs.lemmas.List.{take_all, take_more}
use Rattle.std.proofs.lemmas.List.Elements.{Contains-get_or}
use Rattle.lryacc.specs.declared.contents.Contents.{Contents}
use Rattle.lryacc.specs.declared.contents.Statement.{Statement}
use Rattle.lryacc.specs.Numbered.{HaveRules}
use Rattle.lryacc.proofs.Numbered.{adds_again, adds_none, among-same, have-more, have-none}
use Rattle.lryacc.proofs.numbering.Numbering.add_bare_rules.Goals as goal

pub loop-statement-init : goal.loop-statement-init
loop-statement-init c = record {
  added = adds_none refl;
  have = have-none c.args.self.now;
}

pub add_bare-requires : goal.add_bare-requires
add_bare-requires c =
    let read = c.deref-statement-items.result.now in
    let same = c.deref-statement-items.ensures.value ∙ ap (λ (contents : Contents). contents.statements.items) (sym c.loop-statement.invariant.added.contents) in
    among-same read _ _ same (Contains-get_or read c.loop-statement.statement-index _ c.loop-statement-test.true)

pub loop-statement-preserved : goal.loop-statement-preserved
loop-statement-preserved c =
    let read = c.deref-statement-items.result.now in
    let index = c.loop-statement.statement-index in
    let below : index < length read = c.loop-statement-test.true in
    let one = c.in_ok-add_bare.ensures in
    let so_far = c.loop-statement.invariant in
    record {
      added = adds_again so_far.added one.added;
      have = have-more _ _ _ c.loop-statement.self c.add_bare.new.self (take_more read index _ below) one.added one.has so_far.have;
    }

pub returns-clause-have : goal.returns-clause-have
returns-clause-have c =
    subst (λ (xs : List Statement). HaveRules xs c.loop-statement.self) (take_all _ _ c.loop-statement-test.false ∙ c.deref-statement-items.ensures.value) c.loop-statement.invariant.have
