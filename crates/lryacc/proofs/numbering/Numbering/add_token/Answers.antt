use Rattle.std.proofs.Common.{◌≡◌, refl, ◌∙◌, ap, arith, length, string_bytes}
use Rattle.std.specs.Prelude.{slice_get, map}
use Rattle.lrgrammar.specs.declared.grammar.PartToken.{PartToken}
use Rattle.lryacc.specs.Numbered.{names_of}
use Rattle.lryacc.proofs.Numbered.{end-more, levelled-more, map-added, map-more, numbered-more}
use Rattle.lryacc.proofs.numbering.Numbering.add_token.Goals as goal

pub returns-clause-added : goal.returns-clause-added
returns-clause-added c =
    let name_of_token = λ (token : PartToken). string_bytes token.name in
    let tokens = c.push.new.self.items in
    let old = c.args.self.now in
    let names = names_of old in
    let token : PartToken = record { name = c.args.name; precedence = c.args.precedence } in
    let level_of_token = λ (token : PartToken). token.precedence in
    record {
      meaning = refl;
      contents = refl;
      rules = λ _ _ e. e;
      numbered =
          numbered-more names names.rules (map name_of_token tokens) (map level_of_token tokens) names.starts names.symbol _ _ _ (λ _ _ h. h)
          (map-more name_of_token old.grammar.parts.tokens.items tokens token c.in_ok-push.ensures.items)
          (map-more level_of_token old.grammar.parts.tokens.items tokens token c.in_ok-push.ensures.items)
          (λ _ _ h. h) (λ same. same);
      levelled =
          levelled-more names.precedences (map level_of_token tokens) _ _
          (map-more level_of_token old.grammar.parts.tokens.items tokens token c.in_ok-push.ensures.items);
      end =
          end-more names names.rules (map name_of_token tokens) (map level_of_token tokens) names.starts names.symbol _
          (map-more name_of_token old.grammar.parts.tokens.items tokens token c.in_ok-push.ensures.items)
          (map-more level_of_token old.grammar.parts.tokens.items tokens token c.in_ok-push.ensures.items);
    }

pub returns-clause-number : goal.returns-clause-number
returns-clause-number c =
    let name_of_token = λ (token : PartToken). string_bytes token.name in
    let tokens = c.push.new.self.items in
    let old = c.args.self.now.grammar.parts.tokens in
    let number : c.len-number.result ≡ length old.items = omega (arith, c.len-number.ensures, old.ok.0) in
    ap (slice_get (map name_of_token tokens)) number
    ∙ map-added name_of_token c.args.self.now.grammar.parts.tokens.items tokens record { name = c.args.name; precedence = c.args.precedence } c.in_ok-push.ensures.items

pub returns-clause-precedence : goal.returns-clause-precedence
returns-clause-precedence c =
    let level_of_token = λ (token : PartToken). token.precedence in
    let tokens = c.push.new.self.items in
    let old = c.args.self.now.grammar.parts.tokens in
    let number : c.len-number.result ≡ length old.items = omega (arith, c.len-number.ensures, old.ok.0) in
    ap (slice_get (map level_of_token tokens)) number
    ∙ map-added level_of_token old.items tokens record { name = c.args.name; precedence = c.args.precedence } c.in_ok-push.ensures.items
