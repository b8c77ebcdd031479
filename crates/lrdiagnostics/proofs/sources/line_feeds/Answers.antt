use Rattle.std.proofs.Common.{length}
use Rattle.std.proofs.lemmas.Iterator.{items_from_collect}
use Rattle.std.proofs.lemmas.Iterator.Consumers.{YieldsList-from_first}
use Rattle.std.proofs.lemmas.Result.{IfOk-weaker}
use Rattle.memchr.specs.Find.{is_byte, places}
use Rattle.lrdiagnostics.specs.Positions.{AreFeeds}
use Rattle.lrdiagnostics.proofs.FeedPlaces.{feeds_found}
use Rattle.lrdiagnostics.proofs.sources.line_feeds.Goals as goal

pub returns : goal.returns
returns c =
    let text = c.args.bytes.now in
    let found = YieldsList-from_first (λ x. x) (λ rest. rest) (places (is_byte 10) text) c.memchr_iter.ensures.value in
    IfOk-weaker c.collect.result _ (λ feeds. AreFeeds text (length text) feeds.items) (λ feeds are. rw are (feeds_found text)) (items_from_collect _ c.collect.ensures.ran found)
