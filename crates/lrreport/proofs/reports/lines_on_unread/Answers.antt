use Rattle.std.proofs.Common.{ap}
use Rattle.lrdiagnostics.proofs.ToldPlaces.{places_of_faults}
use Rattle.lrreport.specs.ToldFaults.{most_told}
use Rattle.lrreport.proofs.ToldTexts.{tells_in, tells_unread}
use Rattle.lrreport.proofs.reports.lines_on_unread.Goals as goal

pub returns : goal.returns
returns c =
    let unread = c.args.unread in
    let messages = c.in_ok-messages.messages.items in
    let told =
    tells_in c.finish.result _ _ unread.source.now.name.now unread.source.now.bytes.now _ (ap (λ held. held.bytes) c.new-text.ensures) c.in_ok-add_messages.ensures
    c.finish.ensures.ok in
    tells_unread c.finish.result c.args.options unread _ c.in_default.is
    (rw (c.most_told-most.ensures, c.as_slice.ensures.value) (places_of_faults (most_told c.args.options) messages unread.faults.now c.in_ok-messages.ensures))
    told
