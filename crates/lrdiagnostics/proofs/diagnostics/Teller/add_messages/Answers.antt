-- a message more, and how many others there are
use Rattle.std.proofs.Common.{append-nil, subst}
use Rattle.lrdiagnostics.specs.Places.{AddsPlaces, first_places}
use Rattle.lrdiagnostics.proofs.AddedPieces.{no_more, more_of}
use Rattle.lrdiagnostics.proofs.ToldPlaces.{no_place, places_both, places_more, all_first}
use Rattle.lrdiagnostics.proofs.diagnostics.Teller.add_messages.Goals as goal

pub loop-message-init : goal.loop-message-init
loop-message-init c = no_place _ _ (no_more c.args.text.now)

pub loop-message-preserved : goal.loop-message-preserved
loop-message-preserved c =
    places_more c.split_at.result.0.now c.loop-message.message-index c.message-item.result c.loop-message-test.true c.message-item.is
    c.loop-message.invariant c.in_ok-add_message.ensures

pub returns-else-more-gt0 : goal.returns-else-more-gt0
returns-else-more-gt0 c =
    let source = c.args.self.source.now in
    let told =
    all_first c.loop-message.message-index c.min.result c.args.most c.split_at.result.0.now c.args.messages.now c.loop-message-test.false c.split_at.ensures.front
    c.min.ensures in
    subst (λ ms. AddsPlaces c.args.text.now c.loop-message.text source.name.now source.bytes.now (first_places ms)) told
    c.loop-message.invariant

pub returns-after-more-eq1 : goal.returns-after-more-eq1
returns-after-more-eq1 c =
    let source = c.args.self.source.now in
    let told =
    all_first c.loop-message.message-index c.min.result c.args.most c.split_at.result.0.now c.args.messages.now c.loop-message-test.false c.split_at.ensures.front
    c.min.ensures in
    subst (λ ms. AddsPlaces c.args.text.now c.write.new.self source.name.now source.bytes.now (first_places ms)) told
    (subst (AddsPlaces c.args.text.now c.write.new.self source.name.now source.bytes.now) (append-nil _)
    (places_both c.loop-message.invariant (no_place _ _ (more_of c.write.ensures))))
