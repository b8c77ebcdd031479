-- first symbols of the body
use Rattle.std.proofs.Common.{ℕ, sym, ap, ◌∙◌, take}
use Rattle.std.proofs.lemmas.List.{take-map}
use Rattle.lrspec.specs.grammars.Grammar.{body_of}
use Rattle.lrgrammar.specs.Symbols.{symbol_of, number_of}
use Rattle.lrexchange.proofs.cuts.before_dot.Goals as goal

pub returns-then-dot-body : goal.returns-then-dot-body
returns-then-dot-body c =
    let n = c.from-dot.result in
    sym (take-map (symbol_of number_of) n c.prod-body.result.now) ∙ ap (take n) c.prod-body.ensures.body
    ∙ ap (λ (k : ℕ). take k (body_of c.args.grm.now c.args.item.0.0)) c.from-dot.ensures
