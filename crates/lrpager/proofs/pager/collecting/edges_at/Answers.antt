use Rattle.std.proofs.Common.{◌∙◌, ap, sym, length, refl}
use Rattle.std.proofs.lemmas.Option.{slice_get_read}
use Rattle.lrplacing.specs.Construction.{draft_edges}
use Rattle.lrpager.proofs.pager.collecting.edges_at.Goals as goal

pub returns-clause-edges : goal.returns-clause-edges
returns-clause-edges g c =
    let at = slice_get_read c.args.drafts.now (length c.args.drafts.now) c.args.k c.index-drafts-k.result refl c.requires c.index-drafts-k.is in
    c.edges.ensures.edges ∙ sym (ap draft_edges at)
