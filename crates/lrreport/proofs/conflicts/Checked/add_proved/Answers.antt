use Rattle.lrreport.proofs.AddedTokens.{adds_both}
use Rattle.lrreport.proofs.conflicts.Checked.add_proved.Goals as goal

pub returns : goal.returns
returns c =
    let opened = adds_both c.key.ensures c.begin_array.ensures in
    let grammar = adds_both (adds_both (adds_both opened c.add_if_unambiguous.ensures) c.add_if_ambiguous.ensures) c.add_if_ambiguous-2.ensures in
    adds_both (adds_both grammar c.add_exactness.ensures) c.end_array.ensures
