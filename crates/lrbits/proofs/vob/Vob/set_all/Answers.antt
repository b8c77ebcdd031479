use Rattle.std.proofs.Common.{◌≡◌, ◌∙◌, ap, length}
use Rattle.std.specs.Vec.{with_items}
use Rattle.lrbits.proofs.PackedBits.{same_items, view_length}
use Rattle.lrbits.proofs.FilledWords.{filled_list, filled_packs}
use Rattle.lrbits.proofs.vob.Vob.set_all.Goals as goal
use Rattle.lrbits.proofs.vob.Vob.set_all.Goals.{After-fill_words}

pub fill_words-requires : goal.fill_words-requires
fill_words-requires c = ap length c.as_mut_slice.ensures.value ∙ c.self.invariant.count

module _ (c : After-fill_words) where
  many : length c.fill_words.new.words ≡ length c.self.inside.words.items
  many = c.fill_words.ensures.len ∙ ap length c.as_mut_slice.ensures.value

  stored : (with_items c.self.inside.words c.fill_words.new.words).items ≡ c.fill_words.new.words
  stored = same_items c.self.inside.words c.fill_words.new.words many

pub invariant_of-self : goal.invariant_of-self
invariant_of-self c =
    let a = (goal.at.invariant_of-self c).After-fill_words in
    rw (stored a) (filled_packs c.self.inside.len c.fill_words.new.words (many a
    ∙ c.self.invariant.count) c.fill_words.ensures.unused)

pub returns : goal.returns
returns c =
    let n = view_length c.self.inside.len c.self.inside.words.items c.args.self.now c.self.view_is in
    record {
      after = rw (n, stored (goal.at.returns c).After-fill_words)
          (filled_list c.self.inside.len c.fill_words.new.words c.args.value c.fill_words.ensures.used);
    }
