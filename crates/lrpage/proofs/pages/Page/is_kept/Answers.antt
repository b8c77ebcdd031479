use Rattle.std.proofs.lemmas.List.Elements.{All-contains}
use Rattle.lrpage.specs.KeptEntries.{IsShownKept}
use Rattle.lrpage.proofs.pages.Page.is_kept.Goals as goal

pub returns : goal.returns
returns c =
    let page = c.args.self.now in
    let is_kept = IsShownKept page.found.now.grm page.found.now.graph page.found.now.table in
    λ among. All-contains is_kept page.kept.now c.args.entry.now page.unlost (c.is_among.ensures among)
