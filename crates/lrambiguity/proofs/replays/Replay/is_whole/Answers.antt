use Rattle.std.proofs.Common.{map, ap, sym, ◌∙◌, refl}
use Rattle.lrgrammar.specs.Symbols.{symbol_of}
use Rattle.lrspec.specs.grammars.Grammar.{body_of}
use Rattle.lrambiguity.proofs.SymbolTests.{lists_equal, equal_tested}
use Rattle.lrambiguity.proofs.replays.Replay.is_whole.Goals as goal

pub returns-then-self-text : goal.returns-then-self-text
returns-then-self-text g c =
    let number = g.T.IndexStorage.number in
    let law = g.met.T.IndexStorage in
    let roots = c.as_slice.result.now in
    let body = c.prod.result.now in
    let start = c.prod.ensures.body ∙ ap (body_of c.args.grm.now) c.start_prod.ensures in
    let same = ap (map (symbol_of number)) c.as_slice.ensures.value in (
      λ is.
          let equal =
          lists_equal number g.T.PartialEq.eq law.same law.injective _
          (record { rules = λ r s. refl; rule_token = λ r t. refl; token_rule = λ t r. refl; tokens = λ t u. refl }) roots body (sym is ∙ c.eq.ensures) in
          (c.if-self-text.true, sym same ∙ (ap (map (symbol_of number)) equal ∙ start)),
      λ k.
          equal_tested number g.T.PartialEq.eq law.same law.injective _
          (record { rules = λ r s. refl; rule_token = λ r t. refl; token_rule = λ t r. refl; tokens = λ t u. refl }) roots body c.eq.result c.eq.ensures
          (same ∙ (k.1 ∙ sym start)),
    )
