use Rattle.std.proofs.Common.{◌≡◌, ◌∙◌}
use Rattle.std.specs.String.{string_bytes}
use Rattle.std.proofs.lemmas.Result.{IfOk-weaker}
use Rattle.lrspec.specs.texts.MachineLines.{production_label}
use Rattle.lrtable.proofs.SearchedPlaces.{label_pieces}
use Rattle.lrtable.proofs.machine.answers.production_label.Goals as goal

pub returns : goal.returns
returns g c =
    let m = c.args.grm.now in
    let p = g.T.IndexStorage.number c.args.pidx.0 in
    IfOk-weaker c.format.result _ (λ s. string_bytes s ≡ production_label m p)
    (λ s h. h ∙ label_pieces m p (g.T.IndexStorage.number c.prod_to_rule.result.0) c.rule_name_str-rule.result.now c.place_in_rule-place.result c.prod_to_rule.ensures.rule c.rule_name_str-rule.ensures c.place_in_rule-place.ensures)
    c.format.ensures.ok
