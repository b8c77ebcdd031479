-- where the header of a file of grmtools stands
use Rattle.std.proofs.Common.{◌≡◌, ℕ, ◌+◌, ◌-◌, ◌<◌, List, Ok, Err, Result, drop, get_or, length, slice_index, refl, ap, sym, ◌∙◌, subst, inl, inr, arith}
use Rattle.std.proofs.lemmas.Bool.{cases_lt}
use Rattle.std.proofs.lemmas.List.{get_or-drop, get_or-take}
use Rattle.std.proofs.lemmas.Option.{get_or_from_slice_get, slice_get_within}
use Rattle.lryacc.specs.declared.faults.Fault.{Fault}
use Rattle.lryacc.specs.GapsRead.{EndsGap, IsNoGap}
use Rattle.lryacc.specs.Headers.{HasHeader}
use Rattle.lryacc.proofs.GapEnds.{behind}

-- `%` and `{` are no part of a gap
percent : (byte : ℕ) → byte ≡ 37 → IsNoGap byte
percent byte is = subst IsNoGap (sym is) record { no_blank = refl; no_slash = λ no. omega (arith, no) }

brace : (byte : ℕ) → byte ≡ 123 → IsNoGap byte
brace byte is = subst IsNoGap (sym is) record { no_blank = refl; no_slash = λ no. omega (arith, no) }

module _ (text : List ℕ) (h : HasHeader text) where
  first-byte : slice_index text h.start ≡ 37
  first-byte =
      let count : 0 < (h.start + 9) - h.start = omega arith in
      let place : h.start + 0 ≡ h.start = omega arith in
      sym (ap (slice_index text) place)
      ∙ sym (get_or-drop h.start text 0 0)
      ∙ sym (get_or-take ((h.start + 9) - h.start) (drop h.start text) 0 0 count)
      ∙ ap (λ (bytes : List ℕ). get_or bytes 0 0) h.word

  -- the gap before it ends there
  pub word-ends : EndsGap text h.start
  word-ends = record {
    inside = elim (cases_lt h.start (length text)) [
      | inl more ↦ more
      | inr none ↦ let no : 0 ≡ 37 = sym (behind text h.start none) ∙ first-byte in absurd (omega (arith, no))
    ];
    is = percent (slice_index text h.start) first-byte;
  }

  -- and so does that before the brace
  pub brace-ends : EndsGap text h.brace
  brace-ends = record {
    inside = slice_get_within text h.brace 123 h.opens;
    is = brace (slice_index text h.brace) (get_or_from_slice_get text h.brace 123 0 h.opens);
  }

-- one end, and no fault
pub same_Ok : (m n : ℕ) → ◌≡◌ {A = Result ℕ Fault} (Ok m) (Ok n) → m ≡ n
same_Ok m n e = cc

pub no_Err : (fault : Fault) (n : ℕ) → ◌≡◌ {A = Result ℕ Fault} (Err fault) (Ok n) → ⊥
no_Err fault n e = absurd (cc)
