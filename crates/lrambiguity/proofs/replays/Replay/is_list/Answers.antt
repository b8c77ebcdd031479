use Rattle.std.proofs.Common.{map, ap, sym, ◌∙◌, refl}
use Rattle.lrgrammar.specs.Symbols.{symbol_of}
use Rattle.lrambiguity.proofs.SymbolTests.{lists_equal}
use Rattle.lrambiguity.proofs.replays.Replay.is_list.Goals as goal

pub returns-then-self-text : goal.returns-then-self-text
returns-then-self-text g c = λ is.
    let number = g.T.IndexStorage.number in
    let law = g.met.T.IndexStorage in
    let equal =
    lists_equal number g.T.PartialEq.eq law.same law.injective _
    (record { rules = λ r s. refl; rule_token = λ r t. refl; token_rule = λ t r. refl; tokens = λ t u. refl }) c.as_slice.result.now c.args.list.now (sym is ∙ c.eq.ensures) in
    (c.if-self-text.true, ap (map (symbol_of number)) (sym c.as_slice.ensures.value ∙ equal))
