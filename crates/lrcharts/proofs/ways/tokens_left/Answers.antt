-- behind those that were taken
use Rattle.std.proofs.Common.{◌-◌, length, drop, sym, ap, ◌∙◌, length-drop, arith}
use Rattle.std.proofs.lemmas.List.{take_all, drop-map}
use Rattle.lrgrammar.specs.declared.idx.TIdx.{TIdx}
use Rattle.lrtable.specs.RunAnswers.{text_of}
use Rattle.lrgrammar.specs.Symbols.{number_of}
use Rattle.lrcharts.proofs.ways.tokens_left.Goals as goal

pub returns : goal.returns
returns c =
    let text = c.args.text.now in
    let used = c.args.machine.now.used in
    ap (text_of number_of) (take_all (length text - used) (drop used text) (omega (arith, length-drop used text)))
    ∙ sym (drop-map (λ (t : TIdx _). number_of t.0) used text)
