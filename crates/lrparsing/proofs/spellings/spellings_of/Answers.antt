use Rattle.std.proofs.Common.{◌≡◌, ◌++◌, [], map, ap, ◌∙◌, subst, refl}
use Rattle.lrparsing.specs.Lines.{HasMore, named_tokens, spelled}
use Rattle.lrparsing.proofs.MoreNames.{more_behind, all_below}
use Rattle.lrparsing.proofs.spellings.spellings_of.Goals as goal

pub returns-clause-names : goal.returns-clause-names
returns-clause-names c =
    let count = c.args.count in
    let names = named_tokens c.args.file.now count in
    let one = map spelled c.add_names.new.spellings.items in
    let two = map spelled c.add_names-2.new.spellings.items in
    let three = map spelled c.add_names-3.new.spellings.items in
    let first : one ≡ names = c.in_ok-add_names.ensures.names refl ∙ ap (λ l. map spelled l ++ names) c.new-spellings.ensures.items in
    subst (λ l. HasMore count l three) first (more_behind count one two three c.in_ok-add_names-2.ensures.more c.in_ok-add_names-3.ensures.more)

pub returns-clause-tokens : goal.returns-clause-tokens
returns-clause-tokens c =
    let count = c.args.count in
    let one = map spelled c.add_names.new.spellings.items in
    let two = map spelled c.add_names-2.new.spellings.items in
    let three = map spelled c.add_names-3.new.spellings.items in
    let start : HasMore count [] one = subst (λ l. HasMore count (map spelled l) one) c.new-spellings.ensures.items c.in_ok-add_names.ensures.more in
    all_below count c.add_names-3.new.spellings.items
    (more_behind count [] one three start (more_behind count one two three c.in_ok-add_names-2.ensures.more c.in_ok-add_names-3.ensures.more))
