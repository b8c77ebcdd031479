use Rattle.std.proofs.Common.{◌≡◌, ◌/◌, ◌%◌, ◌<◌, ◌≢◌, ◌↔◌, ℕ, Bool, true, false, not, IsTrue, refl, get_or, ◌∙◌, arith}
use Rattle.std.proofs.lemmas.Grind.{get_or_default_zero}
use Rattle.std.proofs.Math.Bool.{beq}
use Rattle.lrbits.specs.Words.{in_word}
use Rattle.lrbits.specs.Bits.{bit}
use Rattle.lrbits.proofs.PackedBits.{view_length, bit_below}
use Rattle.lrbits.proofs.WrittenBit.{written_packs, written_list}
use Rattle.lrbits.proofs.vob.Vob.set.Goals as goal
use Rattle.lrbits.proofs.vob.Vob.set.Goals.{After-has_bit}

pub index-word-requires : goal.index-word-requires
index-word-requires c =
    omega (
      arith,
      view_length c.self.inside.len c.self.inside.words.items c.args.self.now
          c.self.view_is,
      c.self.invariant.count,
      c.self.inside.words.ok.0,
    )

pub index_mut-requires : goal.index_mut-requires
index_mut-requires c =
    omega (
      arith,
      view_length c.self.inside.len c.self.inside.words.items c.args.self.now
          c.self.view_is,
      c.self.invariant.count,
      c.self.inside.words.ok.0,
    )

module _ (c : After-has_bit) where
  within : c.args.i < c.self.inside.len
  within = omega (arith, view_length c.self.inside.len c.self.inside.words.items c.args.self.now c.self.view_is)

  -- the word that is written over
  before : c.index-word.result.now ≡ get_or c.self.inside.words.items (c.args.i / 64) 0
  before = c.index-word.ensures
      ∙ get_or_default_zero c.self.inside.words.items (c.args.i / 64) c.index-word.result.now
      (omega (arith, within, c.self.invariant.count))

  others : (k : ℕ) → k < 64 → k ≢ c.args.i % 64
      → in_word c.with_bit.result k ≡ in_word (get_or c.self.inside.words.items (c.args.i / 64) 0) k
  others = rw (← before) c.with_bit.ensures.kept

  tested : c.has_bit.result ≡ bit c.args.self.now c.args.i
  tested = rw
      (← c.self.view_is, bit_below c.self.inside.len c.self.inside.words.items c.args.i within, ← before) c.has_bit.ensures

-- whether two truth values differ
differ : (a b : Bool) → IsTrue (not (beq a b)) ↔ (a ≢ b)
differ true true = (λ h. cc, λ n. absurd (n refl))
differ true false = (λ h. λ e. cc, λ n. refl)
differ false true = (λ h. λ e. cc, λ n. refl)
differ false false = (λ h. cc, λ n. absurd (n refl))

pub invariant_of-self : goal.invariant_of-self
invariant_of-self c =
    written_packs c.self.inside.len c.self.inside.words.items c.args.i c.with_bit.result c.args.value c.self.invariant
    (within c) c.with_bit.ensures.written (others c)

pub returns-clause-after : goal.returns-clause-after
returns-clause-after c =
    rw (← c.self.view_is)
    (written_list c.self.inside.len c.self.inside.words.items c.args.i c.with_bit.result c.args.value c.self.invariant
    (within c) c.with_bit.ensures.written (others c))

pub returns-clause-changed : goal.returns-clause-changed
returns-clause-changed c = rw (← tested c) (differ c.has_bit.result c.args.value)
