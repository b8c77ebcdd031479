use Rattle.std.proofs.Common.{◌≡◌, get_or, ◌++◌, append_assoc, arith}
use Rattle.std.specs.Prelude.{codes}
use Rattle.std.specs.String.{string_bytes}
use Rattle.std.proofs.lemmas.Str.{encode_ascii}
use Rattle.lrspec.specs.texts.PrintedTexts.{token_text}
use Rattle.lritems.proofs.JoinedTexts.{last_piece}
use Rattle.lritems.proofs.PrintedNames.{read_or}
use Rattle.lritems.proofs.printing.push_token.Goals as goal

pub returns : goal.returns
returns g c =
    let names = c.args.grm.now.token_names in
    let t = g.T.IndexStorage.number c.args.tidx.0 in
    let name : c.unwrap_or.result.now ≡ get_or names t (codes "$") = read_or (λ s. s.now) names t c.token_name.result _ _ c.unwrap_or.ensures c.token_name.ensures in
    let first : string_bytes c.push.new.self ≡ string_bytes c.args.text.now ++ codes "'" = rw (← encode_ascii 39 (omega arith)) c.in_ok-push.ensures.bytes in
    let second : string_bytes c.push_str.new.self ≡ string_bytes c.push.new.self ++ c.unwrap_or.result.now = c.in_ok-push_str.ensures.bytes in
    let whole : string_bytes c.push_str.new.self ++ codes "'" ≡ string_bytes c.args.text.now ++ token_text c.args.grm.now t = rw (second, name, first) (simp append_assoc) in
    last_piece c.push-2.result _ (string_bytes c.push_str.new.self) (codes "'") _ (rw (encode_ascii 39 (omega arith)) at c.push-2.ensures.bytes) whole
