use Rattle.std.proofs.Common.{◌≡◌, ◌-◌, ◌*◌, ◌/◌, ◌%◌, ◌≤◌, length, get_or, refl, ◌∙◌, arith}
use Rattle.std.proofs.lemmas.Grind.{get_or_default_zero}
use Rattle.lrbits.specs.Bits.{set_places}
use Rattle.lrbits.specs.Words.{first_bits, places_left}
use Rattle.lrbits.proofs.SetPlaces.{set_places_members, set_places_upwards}
use Rattle.lrbits.proofs.PlacesBegun.{begin_word, begin_empty}
use Rattle.lrbits.proofs.PackedBits.{view_length}
use Rattle.lrbits.proofs.vob.Vob.iter_set_bits.Goals as goal
use Rattle.lrbits.proofs.vob.Vob.iter_set_bits.Goals.{After-as_slice, then-range, else-range}

pub index-requires : goal.index-requires
index-requires c =
    omega (
      arith,
      view_length c.self.inside.len c.self.inside.words.items c.args.self.now
          c.self.view_is,
      c.self.invariant.count,
      c.self.inside.words.ok.0,
    )

within : (c : After-as_slice) → c.args.range.end ≤ c.self.inside.len
within c = omega (arith, view_length c.self.inside.len c.self.inside.words.items c.args.self.now c.self.view_is)

room : (c : After-as_slice) → c.self.inside.len ≤ 64 * length c.self.inside.words.items
room c = omega (arith, c.self.invariant.count)

left : (c : After-as_slice)
    → places_left c.self.inside.words.items c.if-range.word
    (c.args.range.start - c.args.range.start % 64) c.args.range.end ≡ set_places
    (first_bits c.self.inside.len c.self.inside.words.items) c.args.range.start c.args.range.end
left c =
    let n = c.self.inside.len in
    let ws = c.self.inside.words.items in
    let from = c.args.range.start in
    let to = c.args.range.end in
    elim c.if-range.branch [
      | then-range w ↦
          let v : w.index.result.now ≡ get_or ws (from / 64) 0 = w.index.ensures
          ∙ get_or_default_zero ws (from / 64) w.index.result.now (omega (arith, within c, room c)) in
          rw (w.word-is, v)
          (begin_word n ws from to (from - from % 64) refl c.requires.order (within c) (room c) w.if-range.true)
      | else-range w ↦ rw w.word-is
          (begin_empty n ws from to (from - from % 64) refl c.requires.order (within c) (room c) w.if-range.false)
    ]

pub invariant_of-result : goal.invariant_of-result
invariant_of-result c =
    let a = (goal.at.invariant_of-result c).After-as_slice in
    (omega arith, omega arith, rw c.as_slice.ensures.value (omega (arith, within a, room a)))

pub returns-clause-places : goal.returns-clause-places
returns-clause-places c =
    rw (← c.self.view_is, c.as_slice.ensures.value) (left (goal.at.returns-clause-places c).After-as_slice)

pub returns-clause-members : goal.returns-clause-members
returns-clause-members c =
    rw (returns-clause-places c) (set_places_members c.args.self.now c.args.range.start c.args.range.end c.requires.order)

pub returns-clause-upwards : goal.returns-clause-upwards
returns-clause-upwards c = rw (returns-clause-places c) (set_places_upwards c.args.self.now c.args.range.start c.args.range.end)
