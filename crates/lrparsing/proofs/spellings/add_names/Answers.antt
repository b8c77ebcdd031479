use Rattle.std.proofs.Common.{◌<◌, ◌++◌, ℕ, List, map, ap, ◌∙◌, sym, arith, append_assoc, Bor}
use Rattle.std.specs.Prelude.{option_map}
use Rattle.std.specs.Option.{option_to_list}
use Rattle.lrparsing.specs.Lines.{named_tokens, spelled}
use Rattle.lrparsing.specs.Lines.{named_token}
use Rattle.lrparsing.proofs.MoreNames.{named_more, one_more}
use Rattle.lrparsing.proofs.spellings.add_names.Goals as goal

pub loop-token-preserved : goal.loop-token-preserved
loop-token-preserved c =
    let file = c.args.file.now in
    let k = c.loop-token.token in
    let old = map spelled c.args.spellings.now.items in
    let below : k < c.args.count = omega (arith, c.loop-token-test.true) in
    let last = option_to_list (option_map (λ (name : Bor (List ℕ)). (name.now, k)) c.name_in.result) in
    record {
      names = λ way.
          c.in_ok-add_name.ensures
          ∙ (ap (λ l. l ++ last) (c.loop-token.invariant.names way)
          ∙ (ap (λ o. (old ++ named_tokens file k) ++ option_to_list o) (c.name_in.ensures way)
          ∙ (append_assoc old (named_tokens file k) (option_to_list (named_token file k)) ∙ ap (λ l. old ++ l) (sym (named_more file k)))));
      more = one_more c.args.count k (λ (name : Bor (List ℕ)). name.now) c.name_in.result old (map spelled c.loop-token.spellings.items)
          (map spelled c.add_name.new.spellings.items) below c.loop-token.invariant.more c.in_ok-add_name.ensures;
    }
