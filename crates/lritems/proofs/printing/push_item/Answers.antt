use Rattle.std.proofs.Common.{◌≡◌, map, take, ◌++◌, append_assoc, arith}
use Rattle.std.specs.Prelude.{codes}
use Rattle.std.specs.String.{string_bytes}
use Rattle.std.proofs.lemmas.Str.{encode_ascii}
use Rattle.lrspec.specs.grammars.Grammar.{body_of, rule_of, rest}
use Rattle.lrspec.specs.texts.PrintedTexts.{rule_name, spaced, looks_text, item_text}
use Rattle.lrgrammar.specs.Symbols.{symbol_of}
use Rattle.lritems.proofs.JoinedTexts.{last_piece}
use Rattle.lritems.proofs.PrintedNames.{dot_within, name_of_rule, mapped_front, mapped_back, front_symbols, back_symbols}
use Rattle.lritems.proofs.printing.push_item.Goals as goal

pub push_spaced-requires : goal.push_spaced-requires
push_spaced-requires g c = front_symbols c.args.grm.now _ _ _ _ _ (c.prod.ensures.shape.symbols _) c.prod.ensures.body c.split_at.ensures.front

pub push_spaced-requires-2 : goal.push_spaced-requires-2
push_spaced-requires-2 g c = back_symbols c.args.grm.now _ _ _ _ _ (c.prod.ensures.shape.symbols _) c.prod.ensures.body c.split_at.ensures.back

pub returns : goal.returns
returns g c =
    let number = g.T.IndexStorage.number in
    let m = c.args.grm.now in
    let p = number c.args.pidx.0 in
    let d = number c.args.dot.0 in
    let name : c.rule_name_str.result.now ≡ rule_name m (rule_of m p) = name_of_rule m p _ _ c.prod_to_rule.ensures.rule c.rule_name_str.ensures in
    let front : map (symbol_of number) c.split_at.result.0.now ≡ take d (body_of m p) = rw (← c.from.ensures) (mapped_front (symbol_of number) _ _ _ _ c.prod.ensures.body c.split_at.ensures.front) in
    let back : map (symbol_of number) c.split_at.result.1.now ≡ rest m p d = rw (← c.from.ensures) (mapped_back (symbol_of number) _ _ _ _ c.prod.ensures.body c.split_at.ensures.back) in
    let bracket : string_bytes c.push.new.self ≡ string_bytes c.args.text.now ++ codes "[" = rw (← encode_ascii 91 (omega arith)) c.in_ok-push.ensures.bytes in
    let rule : string_bytes c.push_str.new.self ≡ string_bytes c.push.new.self ++ rule_name m (rule_of m p) = rw (← name) c.in_ok-push_str.ensures.bytes in
    let arrow : string_bytes c.push_str-2.new.self ≡ string_bytes c.push_str.new.self ++ codes " ->" = c.in_ok-push_str-2.ensures.bytes in
    let before : string_bytes c.push_spaced.new.text ≡ string_bytes c.push_str-2.new.self ++ spaced m (take d (body_of m p)) = rw (← front) c.in_ok-push_spaced.ensures in
    let dot : string_bytes c.push_str-3.new.self ≡ string_bytes c.push_spaced.new.text ++ codes " ." = c.in_ok-push_str-3.ensures.bytes in
    let behind : string_bytes c.push_spaced-2.new.text ≡ string_bytes c.push_str-3.new.self ++ spaced m (rest m p d) = rw (← back) c.in_ok-push_spaced-2.ensures in
    let comma : string_bytes c.push_str-4.new.self ≡ string_bytes c.push_spaced-2.new.text ++ codes ", {" = c.in_ok-push_str-4.ensures.bytes in
    let looks : string_bytes c.push_looks.new.text ≡ string_bytes c.push_str-4.new.self ++ looks_text m c.args.ctx.now = c.in_ok-push_looks.ensures in
    let whole : string_bytes c.push_looks.new.text ++ codes "}]" ≡ string_bytes c.args.text.now ++ item_text m ((p, d), c.args.ctx.now) = rw (looks, comma, behind, dot, before, arrow, rule, bracket) (simp append_assoc) in
    last_piece c.push_str-5.result _ (string_bytes c.push_looks.new.text) (codes "}]") _ c.push_str-5.ensures.bytes whole

pub prod-requires : goal.prod-requires
prod-requires g c = c.requires.production

pub split_at-requires : goal.split_at-requires
split_at-requires g c = dot_within _ _ _ _ _ c.prod.ensures.body c.from.ensures c.requires.dot

pub prod_to_rule-requires : goal.prod_to_rule-requires
prod_to_rule-requires g c = c.requires.production

pub rule_name_str-requires : goal.rule_name_str-requires
rule_name_str-requires g c = c.prod.ensures.shape.rules _ _ c.prod_to_rule.ensures.rule

pub push_looks-requires : goal.push_looks-requires
push_looks-requires g c = c.requires.bits
