use Rattle.std.proofs.Common.{◌≡◌, [], map, drop}
use Rattle.lritems.specs.ItemsOf.{listed_of}
use Rattle.lritems.specs.Gotos.{gotos_of, ArePlacesFor, ArePlacesOf, symbols_shown}
use Rattle.lritems.proofs.GotosUnderway.{AreMoving}
use Rattle.lritems.proofs.GotosUpwards.{GrowUpwards}
use Rattle.lritems.proofs.gotos.gotos.Given as goal

abbrev pub invariant-loop-key : goal.invariant-loop-key
invariant-loop-key g l =
    let number = g.T.IndexStorage.number in
    let all = listed_of number l.closed in
    let rest = listed_of number (drop l.key-index l.closed) in
    let made = gotos_of number l.gotos.items in
    record {
      moving : AreMoving l.grm all rest made;
      growing : GrowUpwards rest made;
      order : symbols_shown l.grm (map (λ e. e.0) made) rest ≡ symbols_shown l.grm [] all;
      fit : ArePlacesFor l.grm l.places;
      places : ArePlacesOf made l.places;
    }
