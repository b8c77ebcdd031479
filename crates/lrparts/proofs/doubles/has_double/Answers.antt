use Rattle.std.proofs.Common.{map, sym, ◌∙◌, arith}
use Rattle.std.proofs.lemmas.List.{get_or-map, length-map}
use Rattle.std.proofs.lemmas.Map.Text.{hash_map_updates_str}
use Rattle.lrparts.proofs.TruthTests.{true_if, false_if}
use Rattle.lrparts.proofs.NameLookUps.{finds_after, double_after, no_double}
use Rattle.lrparts.proofs.doubles.has_double.Goals as goal

pub returns-then-is_some : goal.returns-then-is_some
returns-then-is_some c =
    let names = c.args.names.now in
    true_if (double_after _ (map (λ n. n.now) names) c.loop-i.i _ c.in_ok-insert.field-0 c.loop-i.invariant (omega (arith, length-map names (λ n. n.now))) (get_or-map (λ n. n.now) names c.loop-i.i _ _ c.loop-i-test.true) c.in_ok-insert.ensures.old (sym c.is_some.ensures ∙ c.if-is_some.true))

pub loop-i-preserved : goal.loop-i-preserved
loop-i-preserved c =
    let names = c.args.names.now in
    finds_after _ _ (map (λ n. n.now) names) c.loop-i.i _ c.in_ok-insert.field-0 c.loop-i.invariant (omega (arith, length-map names (λ n. n.now))) (get_or-map (λ n. n.now) names c.loop-i.i _ _ c.loop-i-test.true) c.in_ok-insert.ensures.old (sym c.is_some.ensures ∙ c.if-is_some.false) (hash_map_updates_str _ c.loop-i.places c.insert.new.self _ c.in_ok-insert.ensures.updates)

-- all names were seen, and none again
pub returns : goal.returns
returns c =
    let names = c.args.names.now in
    false_if (no_double _ (map (λ n. n.now) names) c.loop-i.i c.loop-i.invariant (omega (arith, length-map names (λ n. n.now))))
