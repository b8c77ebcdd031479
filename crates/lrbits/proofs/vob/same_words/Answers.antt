use Rattle.std.proofs.Common.{ℕ, get_or, ap, sym, Fits, w64, rules}
use Rattle.std.proofs.Math.Facts.{Fits-lt-pow}
use Rattle.std.proofs.lemmas.Bool.Decides.{Decides-eqb}
use Rattle.std.proofs.lemmas.Slice.Eq.{slice_eq-Decides}
use Rattle.lrbits.proofs.PackedBits.{same_words}
use Rattle.lrbits.specs.Words.{word_bit}
use Rattle.lrbits.proofs.vob.same_words.Goals as goal

words_fit : (c : goal.After-eq) (k : ℕ) → Fits w64 (get_or c.args.words.now k 0)
words_fit c k = search rules

other_fits : (c : goal.After-eq) (k : ℕ) → Fits w64 (get_or c.args.other.now k 0)
other_fits c k = search rules

pub returns : goal.returns
returns c =
    let d = slice_eq-Decides Decides-eqb c.args.words.now c.args.other.now c.eq.result c.eq.ensures in (
      λ t i. ap (λ ws. word_bit ws i) (d.0 t),
      λ s. d.1
          (same_words c.args.words.now c.args.other.now (sym c.requires) (λ k. Fits-lt-pow (words_fit c k))
          (λ k. Fits-lt-pow (other_fits c k)) s),
    )
