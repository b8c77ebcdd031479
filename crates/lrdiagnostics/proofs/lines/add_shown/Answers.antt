use Rattle.std.proofs.Common.{◌∙◌, map, sym, subst}
use Rattle.std.proofs.lemmas.Iterator.{YieldsList-from_chars}
use Rattle.std.proofs.lemmas.Iterator.Consumers.{YieldsList-end}
use Rattle.std.specs.Prelude.{encode_utf8_all}
use Rattle.lrdiagnostics.specs.ShownTexts.{shown_character}
use Rattle.std.proofs.lemmas.List.{map-id}
use Rattle.lrwriter.specs.Texts.{Adds}
use Rattle.lrwriter.proofs.Pieces.{adds_none, adds_both}
use Rattle.lrdiagnostics.proofs.ShownTexts.{shown_more}
use Rattle.lrdiagnostics.proofs.lines.add_shown.Goals as goal

pub loop-character-init : goal.loop-character-init
loop-character-init c = adds_none c.args.text.now

pub loop-character-preserved : goal.loop-character-preserved
loop-character-preserved c =
    subst (Adds c.args.text.now c.add_char.new.self) (shown_more c.loop-character.yielded c.in-Some.character)
    (adds_both c.loop-character.invariant (rw c.shown.ensures at c.add_char.ensures))

pub returns : goal.returns
returns c =
    let all = YieldsList-end (YieldsList-from_chars c.args.name.now c.utf8.name cc) c.loop-character.yielded _ c.loop-character.yielded_by _ _ c.in-None.is c.next.ensures.steps in
    subst (λ cs. Adds c.args.text.now c.loop-character.text (encode_utf8_all (map shown_character cs))) (sym (map-id c.loop-character.yielded) ∙ all.0) c.loop-character.invariant
