use Rattle.std.proofs.Common.{subst}
use lib.Utf8.{encodes}
use Rattle.lrwriter.specs.Texts.{Adds}
use Rattle.lrwriter.proofs.Pieces.{adds_none, adds_both}
use Rattle.lrdiagnostics.proofs.EscapedTexts.{escaped_more, plain_behind}
use Rattle.lrdiagnostics.proofs.escapes.add_escaped.Goals as goal

pub loop-character-init : goal.loop-character-init
loop-character-init c = adds_none c.args.page.now

pub loop-character-preserved : goal.loop-character-preserved
loop-character-preserved c =
    subst (Adds c.args.page.now c.add_character.new.page) (escaped_more c.loop-character.yielded c.in-Some.character)
    (adds_both c.loop-character.invariant c.add_character.ensures)

pub returns-clause-plain : goal.returns-clause-plain
returns-clause-plain c =
    plain_behind c.args.page.now c.loop-character.page (encodes c.loop-character.yielded) c.loop-character.invariant
