use Rattle.std.proofs.Common.{◌≡◌, ◌+◌, ◌/◌, ◌∙◌, ap, length, arith}
use Rattle.std.specs.Vec.{with_items}
use Rattle.lrbits.proofs.PackedBits.{same_items}
use Rattle.lrbits.proofs.FilledWords.{filled_list, filled_packs}
use Rattle.lrbits.proofs.vob.Vob.from_elem.Goals as goal
use Rattle.lrbits.proofs.vob.Vob.from_elem.Goals.{After-as_mut_slice, After-fill_words}

count : (c : After-as_mut_slice) → length c.in_ok-words.words.items ≡ (c.args.len + 63) / 64
count c = omega (arith, c.in_ok-words.words.ok.0, c.in_ok-words.ensures.len, c.div_ceil.ensures)

pub fill_words-requires : goal.fill_words-requires
fill_words-requires c = ap length c.as_mut_slice.ensures.value ∙ count c

module _ (c : After-fill_words) where
  many : length c.fill_words.new.words ≡ length c.in_ok-words.words.items
  many = c.fill_words.ensures.len ∙ ap length c.as_mut_slice.ensures.value

  stored : (with_items c.in_ok-words.words c.fill_words.new.words).items ≡ c.fill_words.new.words
  stored = same_items c.in_ok-words.words c.fill_words.new.words many

pub invariant_of-result : goal.invariant_of-result
invariant_of-result c =
    let a = (goal.at.invariant_of-result c).After-fill_words in
    rw (stored a) (filled_packs c.args.len c.fill_words.new.words (many a
    ∙ count (goal.at.invariant_of-result c).After-as_mut_slice) c.fill_words.ensures.unused)

pub returns : goal.returns
returns c =
    record {
      bits = rw (stored (goal.at.returns c).After-fill_words)
          (filled_list c.args.len c.fill_words.new.words c.args.value c.fill_words.ensures.used);
    }
