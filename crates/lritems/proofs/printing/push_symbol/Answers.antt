use Rattle.std.proofs.Common.{◌<◌, ◌++◌, [], length, sym, ap, arith}
use Rattle.std.specs.String.{string_bytes}
use Rattle.std.proofs.lemmas.Option.{get_or_from_slice_get}
use Rattle.lritems.proofs.JoinedTexts.{last_piece}
use Rattle.lritems.proofs.printing.push_symbol.Goals as goal

pub rule_name_str-requires : goal.rule_name_str-requires
rule_name_str-requires g c = let s = rw c.in-Rule.is at c.requires in s.1

pub push_token-requires : goal.push_token-requires
push_token-requires g c =
    let s : g.T.IndexStorage.number c.in-Token.tidx.0 < length c.args.grm.now.token_names = rw c.in-Token.is at c.requires in
    omega (arith, s)

pub returns-in-Rule : goal.returns-in-Rule
returns-in-Rule g c =
    let number = g.T.IndexStorage.number in
    let old = string_bytes c.args.text.now in
    let name = sym (get_or_from_slice_get c.args.grm.now.rule_names (number c.in-Rule.ridx.0) c.rule_name_str.result.now [] (sym c.rule_name_str.ensures)) in
    rw c.in-Rule.is
    (last_piece c.push_str.result (string_bytes c.push_str.new.self) old c.rule_name_str.result.now _ c.push_str.ensures.bytes (ap (λ w. old ++ w) name))

pub returns-in-Token : goal.returns-in-Token
returns-in-Token g c = rw c.in-Token.is c.push_token.ensures
