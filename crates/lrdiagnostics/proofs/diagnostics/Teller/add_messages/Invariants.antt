-- the places of the messages so far are told
use Rattle.std.proofs.Common.{take}
use Rattle.lrdiagnostics.specs.Places.{AddsPlaces, first_places}
use Rattle.lrdiagnostics.proofs.diagnostics.Teller.add_messages.Given as goal

abbrev pub invariant-loop-message : goal.invariant-loop-message
invariant-loop-message l =
    AddsPlaces l.fn.text l.text l.self.source.now.name.now l.self.source.now.bytes.now (first_places (take l.message-index l.told))
