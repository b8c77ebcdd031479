use Rattle.std.proofs.Common.{◌∷◌, []}
use Rattle.lrwriter.specs.Texts.{Adds}
use Rattle.lrwriter.proofs.Pieces.{adds_both}
use Rattle.lrparsing.proofs.texts.add_unknown.Goals as goal

pub returns-in-Ok : goal.returns-in-Ok
unfolding lib.Utf8.encode
returns-in-Ok c =
    let end : Adds c.add_shown.new.text c.add_char.new.self (10 ∷ []) = c.add_char.ensures in
    record {
      name = λ utf8. adds_both (adds_both c.add.ensures (rw c.in-Ok.ensures.cases.0 at c.add_shown.ensures)) end;
      no_name = λ no. absurd (no c.in-Ok.ensures.cases.1);
    }

pub returns-in-Err : goal.returns-in-Err
returns-in-Err c = record {
  name = λ utf8. absurd (c.in-Err.ensures.cases.0 utf8);
  no_name = λ no. adds_both c.add.ensures c.add-in-Err.ensures;
}
