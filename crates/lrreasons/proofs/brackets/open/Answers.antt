use Rattle.std.proofs.Common.{refl}
use Rattle.std.specs.Prelude.{slice_set}
use Rattle.std.specs.String.{string_bytes}
use Rattle.lrreasons.proofs.Rows.{opened_first}
use Rattle.lrreasons.proofs.brackets.open.Goals as goal

pub returns : goal.returns
returns c =
    let old = c.args.words.now.items in
    let item = rw c.deref.ensures.value at c.in-Some.ensures.item in
    opened_first string_bytes old (slice_set old 0 c.in_ok-word.word) c.in-Some.first.now c.in_ok-word.word c.args.name.now item.3.0 item.1 c.in_ok-word.ensures.ok refl
