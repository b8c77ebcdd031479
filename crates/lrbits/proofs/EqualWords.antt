-- A test of all words tells whether two bit vectors are equal.
use Rattle.std.proofs.Common.{◌≡◌, ℕ, Bool, List, length, sym, ap, ◌∙◌, ◌↔◌, IsTrue}
use Rattle.std.proofs.Math.Dec.{eqb}
use Rattle.std.proofs.lemmas.Bool.{eqb-true}
use Rattle.std.specs.Bool.{Decides}
use Rattle.lrbits.specs.Words.{first_bits, Packs, SameBits}
use Rattle.lrbits.proofs.PackedBits.{same_lists, same_from_lists, view_length}

-- where both have one length
pub words_decide : (n m : ℕ) (ws vs : List ℕ) (v w : List Bool) (r : Bool) → n ≡ m → Packs n ws → Packs m vs
    → first_bits n ws ≡ v → first_bits m vs ≡ w → IsTrue r ↔ SameBits ws vs → Decides r (v ≡ w)
words_decide n m ws vs v w r q p s a b d =
    let e : first_bits n ws ≡ first_bits m ws = ap (λ k. first_bits k ws) q in (
      λ t. sym a ∙ (e ∙ same_lists m ws vs (d.0 t)) ∙ b,
      λ h. d.1 (same_from_lists m ws vs (rw q at p.unused) s.unused (sym e ∙ (a ∙ h) ∙ sym b)),
    )

-- where they have not
pub lengths_decide : (n m : ℕ) (ws vs : List ℕ) (v w : List Bool) → (n ≡ m → ⊥) → first_bits n ws ≡ v → first_bits m vs ≡ w
    → Decides (eqb n m) (v ≡ w)
lengths_decide n m ws vs v w h a b = (
  λ t. absurd (h (eqb-true n m t)),
  λ e. absurd (h (sym (view_length n ws v a) ∙ ap length e ∙ view_length m vs w b)),
)
