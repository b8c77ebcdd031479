use Rattle.std.proofs.Common.{[], ◌++◌, subst, sym, encode_utf8}
use Rattle.std.proofs.lemmas.List.Concat.{flat_map-append}
use Rattle.lrwriter.specs.Texts.{Adds}
use Rattle.lrwriter.proofs.Pieces.{adds_none, adds_both}
use Rattle.lrdiagnostics.specs.Escapes.{entity}
use Rattle.lrdiagnostics.proofs.EscapedTexts.{plain_behind}
use Rattle.lrdiagnostics.proofs.escapes.add_escaped_name.Goals as goal

pub loop-character-init : goal.loop-character-init
loop-character-init c = ([], adds_none c.args.page.now)

pub loop-character-preserved : goal.loop-character-preserved
loop-character-preserved c =
    let text = c.loop-character.invariant.0 in
    let last = encode_utf8 c.shown.result in
    (text ++ last, subst (Adds c.args.page.now c.add_character.new.page) (sym (flat_map-append entity text last)) (adds_both c.loop-character.invariant.1 c.add_character.ensures))

pub returns : goal.returns
returns c = plain_behind c.args.page.now c.loop-character.page c.loop-character.invariant.0 c.loop-character.invariant.1
