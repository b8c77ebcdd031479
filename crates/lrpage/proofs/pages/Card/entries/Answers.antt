use Rattle.std.proofs.Common.{rules}
use Rattle.std.proofs.lemmas.Iterator.{items_from_collect, YieldsList-from_map, YieldsList-from_slice}
use Rattle.lrshown.specs.declared.evidence.Evidence.{Evidence}
use Rattle.lrpage.proofs.pages.Card.entries.Goals as goal

pub returns : goal.returns
returns c =
    items_from_collect _ c.collect.ensures.ran
    (YieldsList-from_map _ (λ (e : Evidence). e.entry) (YieldsList-from_slice c.args.self.now.meeting.now cc) c.map.ensures.closure (λ x r q k. search rules))
