use Rattle.std.proofs.Common.{◌≡◌, ◌∙◌, false, ap, sym}
use Rattle.std.specs.Prelude.{is_some}
use Rattle.lrreport.specs.Conflicts.{is_met_at, items_before, shifting_items}
use Rattle.lrreport.proofs.ItemsBefore.{by_first, same_before, token_met}
use Rattle.lrreport.proofs.conflicts.Checked.shifting_items.Goals as goal

pub returns : goal.returns
returns c =
    let file = c.args.self.now.told.file.now in
    let es = c.args.entries.now in
    let first = c.in-Some-first.first.now in
    let alone : is_some first.other ≡ false = sym c.is_some.ensures ∙ c.if-is_some.false in
    let by = by_first file c.in-Some.graph es first (sym c.in-Some-first.ensures.value) alone in
    let same = same_before file _ (is_met_at es) (token_met es c.in_ok-tokens.tokens c.in_ok-tokens.ensures) in
    let graph = ap (λ o. shifting_items file o es) c.in-Some.is in
    c.in_ok-items.ensures ∙ same _ ∙ ap (items_before file (is_met_at es)) c.in-Some-closed_state.ensures.some ∙ sym by ∙ sym graph
