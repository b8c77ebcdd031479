use Rattle.std.proofs.Common.{◌≡◌, ℕ, ◌||◌, length, ap, sym, ◌∙◌, refl, ◌≢◌, ◌↔◌, IsTrue}
use Rattle.std.specs.Vec.{with_items}
use Rattle.lrbits.specs.Bits.{union}
use Rattle.lrbits.specs.Words.{word_bit, first_bits, Packs, SameBits}
use Rattle.lrbits.proofs.PackedBits.{one_length, joined_list, joined_packs, same_lists, same_from_lists, same_count, same_items}
use Rattle.lrbits.proofs.Unions.{length-union, bit_of_union}
use Rattle.lrbits.proofs.vob.Vob.or.Goals as goal
use Rattle.lrbits.proofs.vob.Vob.or.Goals.{After-or_words}

pub or_words-requires : goal.or_words-requires
or_words-requires c =
    let v = c.self.inside in
    let w = c.other.inside in
    let e = one_length v.len w.len v.words.items w.words.items c.args.self.now c.args.other.now c.self.view_is
    c.other.view_is c.requires in
    ap length c.as_slice.ensures.value
    ∙ same_count v.len w.len v.words.items w.words.items c.self.invariant c.other.invariant e
    ∙ ap length (sym c.as_mut_slice.ensures.value)

module _ (c : After-or_words) where
  -- both have one length
  same_len : c.other.inside.len ≡ c.self.inside.len
  same_len =
      one_length c.self.inside.len c.other.inside.len c.self.inside.words.items c.other.inside.words.items c.args.self.now
      c.args.other.now c.self.view_is c.other.view_is c.requires

  -- the words after the call, and each of their bits
  stored : (with_items c.self.inside.words c.or_words.new.words).items ≡ c.or_words.new.words
  stored = same_items c.self.inside.words c.or_words.new.words (c.or_words.ensures.len ∙ ap length c.as_mut_slice.ensures.value)

  joined : (i : ℕ)
      → word_bit c.or_words.new.words i ≡ (word_bit c.self.inside.words.items i || word_bit c.other.inside.words.items i)
  joined = rw (← c.as_mut_slice.ensures.value, ← c.as_slice.ensures.value) c.or_words.ensures.each

  united : first_bits c.self.inside.len c.or_words.new.words ≡ union c.args.self.now c.args.other.now
  united =
      let o : first_bits c.self.inside.len c.other.inside.words.items ≡ c.args.other.now = rw (← same_len) c.other.view_is in
      joined_list c.self.inside.len c.or_words.new.words c.self.inside.words.items c.other.inside.words.items joined
      ∙ rw (c.self.view_is, o) refl

  packed : Packs c.self.inside.len c.or_words.new.words
  packed =
      joined_packs c.self.inside.len c.or_words.new.words c.self.inside.words.items c.other.inside.words.items
      (c.or_words.ensures.len
      ∙ ap length c.as_mut_slice.ensures.value) joined c.self.invariant (rw same_len at c.other.invariant.unused)

  changed : IsTrue c.or_words.result ↔ (first_bits c.self.inside.len c.or_words.new.words ≢ c.args.self.now)
  changed =
      let n = c.self.inside.len in
      let ws = c.or_words.new.words in
      let vs = c.self.inside.words.items in
      let h : IsTrue c.or_words.result ↔ (SameBits ws vs → ⊥) = rw
      (← c.as_mut_slice.ensures.value) c.or_words.ensures.changed in (
        λ t e. h.0 t (same_from_lists n ws vs packed.unused c.self.invariant.unused (e
            ∙ sym c.self.view_is)),
        λ d. h.1 (λ s. d (same_lists n ws vs s ∙ c.self.view_is)),
      )

pub invariant_of-self : goal.invariant_of-self
invariant_of-self c = rw (stored (goal.at.invariant_of-self c).After-or_words)
    (packed (goal.at.invariant_of-self c).After-or_words)

pub returns-clause-after : goal.returns-clause-after
returns-clause-after c = rw (stored (goal.at.returns-clause-after c).After-or_words)
    (united (goal.at.returns-clause-after c).After-or_words)

pub returns-clause-len : goal.returns-clause-len
returns-clause-len c = ap length (returns-clause-after c) ∙ length-union c.args.self.now c.args.other.now

pub returns-clause-each : goal.returns-clause-each
returns-clause-each c = rw (returns-clause-after c) (bit_of_union c.args.self.now c.args.other.now c.requires)

pub returns-clause-changed : goal.returns-clause-changed
returns-clause-changed c = rw (stored (goal.at.returns-clause-changed c).After-or_words)
    (changed (goal.at.returns-clause-changed c).After-or_words)
