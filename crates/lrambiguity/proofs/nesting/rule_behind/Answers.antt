use Rattle.std.proofs.Common.{◌≡◌, ◌+◌, ◌∷◌, map, drop, ap, sym, ◌∙◌}
use Rattle.lrgrammar.specs.Symbols.{symbol_of}
use Rattle.lrspec.specs.grammars.Grammar.{Rule, Token}
use Rattle.lrambiguity.proofs.NestingSteps.{symbol_behind}
use Rattle.lrambiguity.proofs.nesting.rule_behind.Goals as goal

pub returns-in-Rule : goal.returns-in-Rule
returns-in-Rule g c =
    let number = g.T.IndexStorage.number in
    let found = c.in_ok-ridx.ensures.lookup in
    let others = drop (c.args.dot + 1) (map (symbol_of number) c.args.body.now) in
    (others, symbol_behind number c.args.body.now c.args.dot c.in_ok-ridx.field-0.now found.3.0 found.1 ∙ ap (λ s. symbol_of number s ∷ others) c.in-Rule.is)

pub returns-in-Token : goal.returns-in-Token
returns-in-Token g c = λ r z e.
    let number = g.T.IndexStorage.number in
    let found = c.in_ok-ridx.ensures.lookup in
    let others = drop (c.args.dot + 1) (map (symbol_of number) c.args.body.now) in
    let is = symbol_behind number c.args.body.now c.args.dot c.in_ok-ridx.field-0.now found.3.0 found.1 ∙ ap (λ s. symbol_of number s ∷ others) c.in-Token.is in
    let same : Token (number c.in-Token.field-0.0) ∷ others ≡ Rule r ∷ z = sym is ∙ e in
    cc
