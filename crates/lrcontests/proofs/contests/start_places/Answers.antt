-- a turn for each state
use Rattle.std.proofs.Common.{◌≡◌, ◌<◌, length, map, true, false, sym, ◌∙◌, arith}
use Rattle.std.proofs.lemmas.List.{map-append}
use Rattle.lrgrammar.proofs.Turns.{has_index, index_number}
use Rattle.lrsearches.specs.StoredPlaces.{place_of}
use Rattle.lrsearches.proofs.FingerprintsInTurn.{of_cores}
use Rattle.lrcontests.proofs.ReasonsOfPlaces.{next_start, other_start}
use Rattle.lrcontests.proofs.contests.start_places.Goals as goal
use Rattle.lrcontests.proofs.contests.start_places.Goals.{then-index-fingerprint+then-is_start+in_ok-push, then-index-fingerprint+else-is_start, else-index-fingerprint}

pub unwrap-requires : goal.unwrap-requires
unwrap-requires g c =
    has_index _ g.T.IndexStorage.MAX c.loop-number.number c.from_usize.result c.from_usize.ensures
    (omega (arith, c.loop-number-test.true, c.to_usize-number-end.ensures.number, c.to_usize-number-end.ensures.within))

pub loop-number-preserved : goal.loop-number-preserved
loop-number-preserved g c =
    let number = g.T.IndexStorage.number in
    let n = c.loop-number.number in
    let h = c.args.graph.now in
    let t = number c.args.token.0 in
    let a = place_of number c.args.given.now in
    let ps = map (place_of number) c.loop-number.places.items in
    let below : n < length h = omega (arith, c.loop-number-test.true, c.to_usize-number-end.ensures.number, c.all_states_len.ensures) in
    elim c.if-index-fingerprint.branch [
      | then-index-fingerprint+then-is_start+in_ok-push w ↦
          let is = index_number number g.T.IndexStorage.MAX n w.from_usize.result w.unwrap.result w.unwrap.ensures w.from_usize.ensures in
          let start = rw (c.core_state-core.ensures.items, is) at w.is_start.ensures in
          let both = start.0 w.if-is_start.true in
          rw (w.places-is, w.in_ok-push.ensures.items, map-append, is) (next_start h t a n ps below both.1 both.0 c.loop-number.invariant)
      | then-index-fingerprint+else-is_start w ↦
          let is = index_number number g.T.IndexStorage.MAX n w.from_usize.result w.unwrap.result w.unwrap.ensures w.from_usize.ensures in
          let start = rw (c.core_state-core.ensures.items, is) at w.is_start.ensures in
          rw w.places-is
          (other_start h t a n ps (λ s l. let no : false ≡ true = sym w.if-is_start.false ∙ start.1 (l, s) in absurd cc) c.loop-number.invariant)
      | else-index-fingerprint w ↦
          let own = rw c.from.ensures at c.index-fingerprint.ensures in
          rw w.places-is
          (other_start h t a n ps
          (λ s l.
          let equal = of_cores h c.args.ways.now.fingerprints.items (number c.args.given.now.state.0) n c.index-fingerprint.result.now c.index.result.now
          c.requires.ways.fingerprints c.requires.state below s in
          absurd (w.if-index-fingerprint.false (c.index.ensures ∙ equal ∙ sym own)))
          c.loop-number.invariant)
    ]

pub returns : goal.returns
returns g c =
    let all : c.loop-number.number ≡ length c.args.graph.now = omega (arith, c.loop-number-test.false, c.loop-number.auto.number-end, c.to_usize-number-end.ensures.number, c.all_states_len.ensures) in
    rw all at c.loop-number.invariant
