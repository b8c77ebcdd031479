use Rattle.std.proofs.Common.{◌≡◌, ◌+◌, length, ap, ◌∙◌, arith}
use Rattle.std.specs.List.{range_with_len}
use Rattle.std.specs.String.{string_bytes}
use Rattle.std.proofs.lemmas.List.{length-map}
use Rattle.lrspec.specs.grammars.Grammar as math
use Rattle.lrgrammar.proofs.grammar.YaccGrammar.iter_tidxs.Goals as goal

pub overflow_add-len : goal.overflow_add-len
overflow_add-len g c =
    omega (arith, c.len.ensures, c.self.inside.token_names.ok.0, length-map c.self.inside.token_names.items string_bytes, c.self.invariant.sizes.tokens, g.met.T.IndexStorage.most)

pub new-requires : goal.new-requires
new-requires g c =
    omega (arith, c.len.ensures, c.self.inside.token_names.ok.0, length-map c.self.inside.token_names.items string_bytes, c.self.invariant.sizes.tokens)

pub returns : goal.returns
returns g c =
    let count : c.len.result + 1 ≡ math.token_count c.args.self.now = omega (arith, c.len.ensures, c.self.inside.token_names.ok.0, length-map c.self.inside.token_names.items string_bytes, ap (λ m. length m.token_names) c.self.view_is) in
    c.new.ensures ∙ ap (range_with_len 0) count
