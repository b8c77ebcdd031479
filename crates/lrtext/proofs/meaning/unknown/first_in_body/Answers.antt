use Rattle.std.proofs.Common.{◌∙◌}
use Rattle.lrspec.specs.texts.Meaning.{unknown_in_body}
use Rattle.lrtext.specs.StoredContents.{name_text_of}
use Rattle.lrtext.proofs.BodySteps.{first_here, kept_same}
use Rattle.lrtext.proofs.meaning.unknown.first_in_body.Goals as goal

-- the first unknown name
pub returns-in-Some : goal.returns-in-Some
returns-in-Some c =
    first_here (unknown_in_body c.args.rules.now c.args.declared.now) name_text_of c.args.body.now c.loop-name.name-index _ c.loop-name-test.true c.in-Some.unknown.now c.loop-name.invariant c.in-Some.ensures

-- one more known name
pub loop-name-preserved : goal.loop-name-preserved
loop-name-preserved c =
    kept_same (unknown_in_body c.args.rules.now c.args.declared.now) name_text_of c.args.body.now c.loop-name.name-index _ c.loop-name-test.true c.in_default.ensures ∙ c.loop-name.invariant
