use Rattle.std.proofs.Common.{◌↔◌, ◌∙◌, ℕ, IsTrue, sym, ap, length}
use Rattle.lrbits.specs.Words.{word_bit}
use Rattle.lrbits.proofs.PackedBits.{one_length, same_count, view_bit}
use Rattle.lrbits.proofs.vob.Vob.intersects.Goals as goal

pub words_intersect-requires : goal.words_intersect-requires
words_intersect-requires c =
    let v = c.self.inside in
    let w = c.other.inside in
    let e = one_length v.len w.len v.words.items w.words.items c.args.self.now c.args.other.now c.self.view_is
    c.other.view_is c.requires in
    ap length c.as_slice-2.ensures.value
    ∙ same_count v.len w.len v.words.items w.words.items c.self.invariant c.other.invariant e
    ∙ ap length (sym c.as_slice.ensures.value)

pub returns : goal.returns
returns c =
    let v = c.self.inside in
    let w = c.other.inside in
    let a = view_bit v.len v.words.items c.args.self.now c.self.view_is c.self.invariant.unused in
    let b = view_bit w.len w.words.items c.args.other.now c.other.view_is c.other.invariant.unused in
    let h : IsTrue c.words_intersect.result ↔
    ((k : ℕ) × IsTrue (word_bit v.words.items k) × IsTrue (word_bit w.words.items k)) = rw
    (← c.as_slice.ensures.value, ← c.as_slice-2.ensures.value) c.words_intersect.ensures in
    record {
      shared = (
        λ t. ((h.0 t).0, a (h.0 t).0 ∙ (h.0 t).1, b (h.0 t).0 ∙ (h.0 t).2),
        λ p. h.1 (
          p.0,
          sym (a p.0)
              ∙ p.1,
          sym (b p.0) ∙ p.2,
        ),
      );
    }
