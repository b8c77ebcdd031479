use Rattle.std.proofs.Common.{refl, ap, ◌∙◌}
use Rattle.std.proofs.lemmas.List.{take_all}
use Rattle.lrtext.specs.NumberedNames.{names_of, with_names}
use Rattle.lrtext.proofs.AddedNames.{name_added}
use Rattle.lrtext.proofs.meaning.numbers.Numbers.add_all.Goals as goal

-- one more name was added
pub loop-name-preserved : goal.loop-name-preserved
loop-name-preserved c =
    name_added c.args.names.now c.args.names.now c.loop-name.name-index _ c.args.self.now c.loop-name.self c.add.new.self refl c.loop-name-test.true (λ w. w.now) c.loop-name.invariant c.in_ok-add.ensures

-- all names were added
pub returns : goal.returns
returns c = c.loop-name.invariant ∙ ap (λ ns. with_names c.args.self.now (names_of ns)) (take_all c.loop-name.name-index c.args.names.now c.loop-name-test.false)
