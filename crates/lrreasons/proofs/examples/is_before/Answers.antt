use Rattle.std.proofs.Common.{◌≡◌, ◌+◌, ◌∷◌, map, drop, ap, ◌∙◌}
use Rattle.lrgrammar.specs.Symbols.{symbol_of, number_of}
use Rattle.lrspec.specs.grammars.Grammar.{Token}
use Rattle.lrambiguity.proofs.NestingSteps.{symbol_behind}
use Rattle.lrreasons.proofs.SameNumbers.{are_same}
use Rattle.lrreasons.proofs.examples.is_before.Goals as goal

pub returns-in-Some-Token : goal.returns-in-Some-Token
returns-in-Some-Token c = λ is.
    let found = c.in-Some-Token.ensures.lookup in
    let others = drop (c.args.dot + 1) (map (symbol_of number_of) c.args.body.now) in
    let same : c.in-Some-Token.found.0 ≡ c.args.token.0 = are_same _ _ c.eq.result c.eq.ensures is in (
      others,
      symbol_behind number_of c.args.body.now c.args.dot c.in-Some-Token.field-0.now found.3.0 found.1
          ∙ ap (λ s. symbol_of number_of s ∷ others) c.in-Some-Token.field-0-is ∙ ap (λ n. Token n ∷ others) same,
    )
