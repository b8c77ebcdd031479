-- a turn for each place of the body
use Rattle.std.proofs.Common.{length, map, sym, subst, ap, arith}
use Rattle.std.proofs.lemmas.List.{length-map}
use Rattle.lrspec.specs.grammars.Grammar.{IsProductionOf}
use Rattle.lrgrammar.specs.Symbols.{symbol_of, number_of}
use Rattle.lrkept.proofs.AlonePairs.{begin_added, next_added, all_added}
use Rattle.lrkept.proofs.alone.add_pairs.Goals as goal

pub loop-place-init : goal.loop-place-init
loop-place-init c = begin_added c.args.grm.now c.args.pidx.0 c.from-rule.result c.args.pairs.now.items

pub loop-place-preserved : goal.loop-place-preserved
loop-place-preserved c =
    let p = c.args.pidx.0 in
    let of_rule = subst (IsProductionOf c.args.grm.now p) (sym c.from-rule.ensures) c.prod_to_rule.ensures.rule in
    next_added c.args.grm.now p c.from-rule.result of_rule (map (symbol_of number_of) c.prod-body.result.now) c.loop-place.place c.args.pairs.now.items c.loop-place.pairs.items _
    c.prod-body.ensures.body c.loop-place.invariant c.in_ok-add_pair_at.ensures

pub returns-clause-alone : goal.returns-clause-alone
returns-clause-alone c = c.loop-place.invariant.alone

pub returns-clause-kept : goal.returns-clause-kept
returns-clause-kept c = c.loop-place.invariant.kept

pub returns-clause-added : goal.returns-clause-added
returns-clause-added c =
    let p = c.args.pidx.0 in
    let of_rule = subst (IsProductionOf c.args.grm.now p) (sym c.from-rule.ensures) c.prod_to_rule.ensures.rule in
    all_added c.args.grm.now p c.from-rule.result of_rule c.loop-place.place c.args.pairs.now.items c.loop-place.pairs.items
    (omega (arith, c.loop-place-test.false, ap length c.prod-body.ensures.body, length-map c.prod-body.result.now (symbol_of number_of))) c.loop-place.invariant
