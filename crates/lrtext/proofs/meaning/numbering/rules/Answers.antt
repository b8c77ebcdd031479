use Rattle.std.proofs.Common.{◌∙◌, ap, [], map, arith}
use Rattle.std.proofs.lemmas.List.{take_all}
use Rattle.lrtext.specs.NumberedNames.{with_name, with_names}
use Rattle.lrtext.specs.StoredContents.{rule_name_of}
use Rattle.lrtext.proofs.AddedNames.{name_added}
use Rattle.lrtext.proofs.NumberedContents.{rules_are}
use Rattle.lrtext.proofs.meaning.numbering.rules.Goals as goal

-- all alternatives were seen
pub returns : goal.returns
returns c =
    let d = c.args.contents.now in
    rules_are d c.loop-alternative.rules (c.loop-alternative.invariant ∙ ap (λ xs. with_names [] (map rule_name_of xs)) (take_all c.loop-alternative.alternative-index d.alternatives.items (omega arith)))

-- the rule of one more alternative was added
pub loop-alternative-preserved : goal.loop-alternative-preserved
loop-alternative-preserved c =
    let before = c.loop-alternative.rules in
    let more = c.in_ok-add.ensures ∙ ap (λ a. with_name before (rule_name_of a)) c.alternative-item.is in
    name_added c.deref-alternative-items.result.now c.args.contents.now.alternatives.items c.loop-alternative.alternative-index c.alternative-item.result [] before c.add.new.self c.deref-alternative-items.ensures.value c.loop-alternative-test.true rule_name_of c.loop-alternative.invariant more
