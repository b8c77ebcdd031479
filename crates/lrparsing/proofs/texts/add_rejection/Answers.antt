use Rattle.std.proofs.Common.{Ok, Err, Result}
use Rattle.std.specs.Result.{OnOk}
use Rattle.lrwriter.specs.Texts.{Adds}
use Rattle.lrwriter.proofs.Pieces.{adds_both}
use Rattle.lrparsing.specs.AnswerTexts.{expected_text, rejection_text}
use Rattle.lrparsing.proofs.texts.add_rejection.Goals as goal

on_ok : {T E : Type 0} (r : Result T E) (P Q : Type 0) → (P → Q) → OnOk r P → OnOk r Q
on_ok (Ok x) P Q f h = f h
on_ok (Err e) P Q f h = tt

pub returns : goal.returns
returns c =
    let file = c.args.file.now in
    on_ok c.add_expected.result
    (Adds c.add.new.self c.add_expected.new.text (expected_text file c.as_slice.result.now))
    (Adds c.args.text.now c.add_expected.new.text (rejection_text file c.args.rejection.now))
    (λ (e : Adds c.add.new.self c.add_expected.new.text (expected_text file c.as_slice.result.now)).
    let told : Adds c.add.new.self c.add_expected.new.text (expected_text file c.args.rejection.now.expected.items) =
    rw c.as_slice.ensures.value at e in
    adds_both (adds_both c.add_place.ensures c.add.ensures) told)
    c.add_expected.ensures
